-- The theorems of `ListDegrees` and `DivisorLattices`.
use Rattle.pair_theory.proofs.DivisorLattices.{lattice_zero, lattice_has_powers}
use Rattle.pair_theory.proofs.ListDegrees.{degree_more, degree_of_primes}
use Rattle.pair_theory.proofs.powers_law.Goals as goal

pub returns-clause-degree : goal.returns-clause-degree
returns-clause-degree g = λ k c o s Ps ms D l curve whole h d lattice.
    degree_of_primes k c curve o whole s Ps ms D l h d lattice

pub returns-clause-degree_more : goal.returns-clause-degree_more
returns-clause-degree_more g = λ k c s o D P m l j product curve whole is prime h power times.
    degree_more k c curve s o whole D P m l j product is prime h power times

pub returns-clause-zero : goal.returns-clause-zero
returns-clause-zero g = λ k c s o D P l j product curve whole is h power times.
    lattice_zero k c curve s o whole D is l h P j product power times

pub returns-clause-admitted : goal.returns-clause-admitted
returns-clause-admitted g = λ k c s o D l curve whole is h. lattice_has_powers k c curve s o whole D l is h
