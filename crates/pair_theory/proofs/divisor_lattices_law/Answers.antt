-- The theorems of `DivisorLattices` and `ListProducts`.
use Rattle.pair_theory.proofs.DivisorLattices.{lattice_of_none, lattice_more, lattice_members, lattice_whole, lattice_once}
use Rattle.pair_theory.proofs.ListProducts.{powers_lattice}
use Rattle.pair_theory.proofs.PrimeDivisors.{no_places}
use Rattle.pair_theory.proofs.divisor_lattices_law.Goals as goal

pub returns-clause-none : goal.returns-clause-none
returns-clause-none g = λ k c s o curve whole. lattice_of_none k c curve s o whole (no_places k c)

pub returns-clause-more : goal.returns-clause-more
returns-clause-more g = λ k c s o D E P m l j product curve whole is prime sum h power times.
    lattice_more k c curve s o whole D is l h P prime m j product power times E sum

pub returns-clause-powers : goal.returns-clause-powers
returns-clause-powers g = λ k c o s Ps ms D js product curve whole h d powers times.
    powers_lattice k c curve o whole s Ps ms js product D h d powers times

pub returns-clause-members : goal.returns-clause-members
returns-clause-members g = λ k c D l curve h z. lattice_members k c curve D l h z

pub returns-clause-whole : goal.returns-clause-whole
returns-clause-whole g = λ k c s D l curve h. lattice_whole k c curve D l s h

pub returns-clause-once : goal.returns-clause-once
returns-clause-once g = λ k c s o D l m curve whole is h i. lattice_once k c curve s o whole D l m is h i
