-- What a binary search by place finds in a formal sum.
use Rattle.std.proofs.Common.{◌≡◌, ℕ, ◌<◌, ◌≤◌, inl, inr, ℤ, pos, List, length, get_or, HoldsAt, sym, ap, ◌∙◌, nat_cmp, Less, Equal, Greater, arith}
use Rattle.std.specs.List.Sorted.{IsNonDecreasingBy, IsPartitionPoint}
use Rattle.std.specs.Ordering.{ordering_index}
use Rattle.std.proofs.lemmas.Bool.Decides.{nat_tests}
use Rattle.std.proofs.lemmas.Bool.{cases_lt}
use Rattle.std.proofs.lemmas.Cmp.{ranked}
use Rattle.ff_divisor.specs.FormalSums.{IsFormalSum, multiplicity}
use Rattle.ff_divisor.proofs.Multiplicities.{multiplicity_at, multiplicity_absent}

module _ (p : ℕ) (es : List (ℕ × ℤ)) (formal : IsFormalSum es) where
  -- comparisons with p rise along the list
  comparisons_rise : IsNonDecreasingBy (λ e. ordering_index (nat_cmp e.0 p)) es
  comparisons_rise i j d le less =
      rises (get_or es i d).0 (get_or es j d).0
      (ordered (λ i_less. formal.ascending i j d i_less less) (λ same. ap (λ n. (get_or es n d).0) same))
    where
      rises : (a b : ℕ) → a ≤ b → ordering_index (nat_cmp a p) ≤ ordering_index (nat_cmp b p)
      rises a b a_le = grind (arith, nat_tests)

      ordered : (i < j → (get_or es i d).0 < (get_or es j d).0) → (i ≡ j → (get_or es i d).0 ≡ (get_or es j d).0)
          → (get_or es i d).0 ≤ (get_or es j d).0
      ordered before same = grind arith

  -- an entry with the place p
  pub found : (i : ℕ) (e : ℕ × ℤ) → i < length es → HoldsAt (λ f. nat_cmp f.0 p ≡ Equal) es i → e ≡ get_or es i e
      → e.1 ≡ multiplicity p es
  found i e less equal e_is =
      let place : (get_or es i e).0 ≡ p = ranked _ p _ (sym (equal e)) in
      ap (λ f. f.1) e_is ∙ sym (multiplicity_at es i e formal less) ∙ ap (λ q. multiplicity q es) place

  -- no entry with the place p
  pub not_found : (i : ℕ) → (IsNonDecreasingBy (λ e. ordering_index (nat_cmp e.0 p)) es
      → IsPartitionPoint (λ e. nat_cmp e.0 p ≡ Less) (λ e. nat_cmp e.0 p ≡ Greater) es i)
      → pos 0 ≡ multiplicity p es
  not_found i parted = sym (multiplicity_absent p es (λ k d less same. elim (cases_lt k i) [
    | inl before ↦
        let smaller : (get_or es k d).0 < p = ranked _ p _ (sym ((parted comparisons_rise).0 k d (omega arith) before))
        in omega arith
    | inr after ↦ let greater : p < (get_or es k d).0 = ranked _ p _ (sym ((parted comparisons_rise).1 k d after less))
        in omega arith
  ]))
