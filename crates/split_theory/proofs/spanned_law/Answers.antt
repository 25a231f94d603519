-- The theorems of `Products` and `RowSpaces`.
use Rattle.ff_lattice.proofs.Divisors.{monic_value}
use Rattle.ff_lattice.proofs.Normal.{monic_poly}
use Rattle.value_theory.proofs.Bridge.{lattice_set}
use Rattle.value_theory.proofs.InfiniteLattices.{some}
use Rattle.split_theory.proofs.Products.{products_spanned}
use Rattle.split_theory.proofs.RowSpaces.{spanned_same, spanned_full}
use Rattle.split_theory.proofs.spanned_law.Goals as goal

pub returns-clause-products : goal.returns-clause-products
returns-clause-products g = λ k c fin inf s Q W u curve fin_form inf_form coordinates products denominator.
    products_spanned k c curve fin inf fin_form inf_form s Q coordinates W products u denominator

pub returns-clause-same : goal.returns-clause-same
returns-clause-same g = λ k c fin inf u W m curve form spanned all same.
    spanned_same k c curve inf form fin u W m spanned all same

pub returns-clause-full : goal.returns-clause-full
returns-clause-full g = λ k c fin inf u W curve fin_form inf_form u_in monic spanned.
    spanned_full k c curve inf inf_form fin (lattice_set k c.fin (some k c curve) fin fin_form) u
    (monic_value k u u_in (monic_poly u monic) monic) W spanned
