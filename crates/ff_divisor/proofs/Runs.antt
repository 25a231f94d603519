-- Sums of runs of entries of one place, in a list that is sorted by place.
use Rattle.std.proofs.Common.{◌≡◌, ◌≢◌, ℕ, ◌+◌, ◌-◌, ◌*◌, ◌^◌, ◌<◌, ◌≤◌, ℤ, pos, ◌+ℤ◌, unsigned_abs, FitsSigned, List, [], ◌∷◌, ◌++◌, length, take, drop, get_or, All, IsPermutation, w64, refl, sym, ap, subst, ◌∙◌, arith}
use Rattle.std.specs.Int.{w128}
use Rattle.std.specs.List.Sorted.{IsNonDecreasingBy}
use Rattle.std.proofs.lemmas.Int.{ints, fits_signed_from_abs}
use Rattle.std.proofs.lemmas.Bool.Decides.{nat_tests}
use Rattle.std.proofs.lemmas.List.{take_all, drop_all, get_or-drop, get_or_read, length-drop}
use Rattle.std.proofs.lemmas.List.Elements.{All-nil, All-head, All-tail, All-weaker, All-append, All-same}
use Rattle.ff_divisor.specs.FormalSums.{IsFormalSum, multiplicity}
use Rattle.ff_divisor.specs.Steps.{entry_of, IsRunAfter}
use Rattle.ff_divisor.proofs.FormalSums.{formal_nil, entry_all}
use Rattle.ff_divisor.proofs.Multiplicities.{share, share_same, multiplicity-append, multiplicity_before, multiplicity_after, multiplicity-take-drop, multiplicity-IsPermutation}
use Rattle.ff_divisor.proofs.Steps.{formal_push, rest_is, multiplicity_more, multiplicity_push, share-sum}

-- the size of a sum of numbers of 64 bits
abs_sum : (a b : ℤ) (n : ℕ) → unsigned_abs a ≤ n * 2 ^ 63 → FitsSigned w64 b → unsigned_abs (a +ℤ b) ≤ (n + 1) * 2 ^ 63
abs_sum a b n bound fits = omega (arith, ints)

pub run_start : (sorted : List (ℕ × ℤ)) → IsRunAfter sorted 0 [] (0, pos 0)
run_start sorted = record {
  formal = formal_nil;
  before = All-nil (λ e. e.0 < 0);
  up_to = λ k d less. omega arith;
  multiplicities = λ p. grind (arith, nat_tests);
  room = omega arith;
}

module _ (sorted : List (ℕ × ℤ)) (i : ℕ) (sums : List (ℕ × ℤ)) (run : ℕ × ℤ) (kept : IsRunAfter sorted i sums run) where
  multiplicity_run : (p : ℕ) → multiplicity p (take i sorted) ≡ multiplicity p sums +ℤ share p run
  multiplicity_run p = sym (kept.multiplicities p) ∙ multiplicity-append p sums (run ∷ [])
      ∙ ap (λ z. multiplicity p sums +ℤ z) (one (share p run))
    where
      one : (z : ℤ) → z +ℤ pos 0 ≡ z
      one z = omega (arith, ints)

  -- the run is whole where the entries that are left have later places
  run_whole : All (λ f. run.0 < f.0) (drop i sorted) → multiplicity run.0 sorted ≡ run.1
  run_whole after =
      regroup _ _ _ _ _ (multiplicity-take-drop run.0 i sorted) (multiplicity_run run.0)
      (multiplicity_before run.0 sums kept.before) (share_same run.0 run refl)
      (multiplicity_after run.0 (drop i sorted) after)
    where
      regroup : (all front rest old s : ℤ) → all ≡ front +ℤ rest → front ≡ old +ℤ s → old ≡ pos 0 → s ≡ run.1
          → rest ≡ pos 0 → all ≡ run.1
      regroup all front rest old s e f g h k = omega (arith, ints)

  -- so its sum is in range
  whole_fits : (list : List (ℕ × ℤ)) → IsPermutation list sorted → ((p : ℕ) → FitsSigned w64 (multiplicity p list))
      → All (λ f. run.0 < f.0) (drop i sorted) → FitsSigned w64 run.1
  whole_fits list permutation in_range after = subst (FitsSigned w64)
      (sym (multiplicity-IsPermutation run.0 list sorted permutation) ∙ run_whole after) (in_range run.0)

  -- at the end
  pub ended_after : length sorted ≤ i → All (λ f. run.0 < f.0) (drop i sorted)
  ended_after end = All-same (λ f. run.0 < f.0) (drop i sorted) [] (drop_all i sorted end) (All-nil (λ f. run.0 < f.0))

  pub ended_fits : (list : List (ℕ × ℤ)) → IsPermutation list sorted → ((p : ℕ) → FitsSigned w64 (multiplicity p list))
      → length sorted ≤ i → FitsSigned w64 run.1
  ended_fits list permutation in_range end = whole_fits list permutation in_range (ended_after end)

  pub ended_formal : IsFormalSum (sums ++ entry_of run.0 run.1)
  ended_formal = formal_push sums run.0 run.1 kept.formal kept.before

  pub ended_multiplicities : (list : List (ℕ × ℤ)) → IsPermutation list sorted → length sorted ≤ i → (p : ℕ)
      → multiplicity p (sums ++ entry_of run.0 run.1) ≡ multiplicity p list
  ended_multiplicities list permutation end p =
      multiplicity_push p sums run.0 run.1 ∙ sym (multiplicity_run p)
      ∙ ap (multiplicity p) (take_all i sorted end) ∙ multiplicity-IsPermutation p list sorted permutation

  module _ (e : ℕ × ℤ) (less : i < length sorted) (e_is : e ≡ get_or sorted i e) where
    run_up_to : run.0 ≤ e.0
    run_up_to = All-head (λ f. run.0 ≤ f.0) e (drop (i + 1) sorted) (rw (rest_is sorted i e less e_is) at kept.up_to)

    pub room_more : FitsSigned w64 e.1 → i < 2 ^ 64 - 1 → FitsSigned w128 (run.1 +ℤ e.1)
    room_more e_fits small =
        let bound = abs_sum run.1 e.1 i kept.room e_fits in
        fits_signed_from_abs w128 (run.1 +ℤ e.1) (omega arith)

    -- an entry of the same place
    pub run_same : (new : List (ℕ × ℤ)) (r : ℕ × ℤ) → FitsSigned w64 e.1 → run.0 ≡ e.0 → r ≡ (e.0, run.1 +ℤ e.1)
        → new ≡ sums → IsRunAfter sorted (i + 1) new r
    run_same new r e_fits place r_is new_is =
        rw (r_is, new_is, sym place) (record {
          formal = kept.formal;
          before = kept.before;
          up_to = All-tail (λ f. run.0 ≤ f.0) e (drop (i + 1) sorted) (rw (rest_is sorted i e less e_is) at kept.up_to);
          multiplicities = λ p.
              multiplicity-append p sums ((run.0, run.1 +ℤ e.1) ∷ [])
              ∙ regroup _ _ _ _ _ (share-sum p run.0 run.1 e.1 ∙ ap (λ q. share p run +ℤ share p (q, e.1)) place)
              (multiplicity_run p) ∙ sym (multiplicity_more p sorted i e less e_is);
          room = abs_sum run.1 e.1 i kept.room e_fits;
        })
      where
        regroup : (old s a b front : ℤ) → s ≡ a +ℤ b → front ≡ old +ℤ a → old +ℤ (s +ℤ pos 0) ≡ front +ℤ b
        regroup old s a b front e f = omega (arith, ints)

    module _ (rises : IsNonDecreasingBy (λ f. f.0) sorted) (other : run.0 ≢ e.0) where
      next_after : All (λ f. e.0 ≤ f.0) (drop i sorted)
      next_after k d k_less =
          let read = get_or-drop i sorted k d in
          let size = length-drop i sorted in
          let first = get_or_read sorted i e less e_is d in
          subst (λ f. e.0 ≤ f.0) (sym read)
          (subst (λ f. f.0 ≤ (get_or sorted (i + k) d).0) (sym first) (rises i (i + k) d (omega arith) (omega arith)))

      later : run.0 < e.0
      later = let le = run_up_to in omega arith

      pub other_fits : (list : List (ℕ × ℤ)) → IsPermutation list sorted
          → ((p : ℕ) → FitsSigned w64 (multiplicity p list)) → FitsSigned w64 run.1
      other_fits list permutation in_range = whole_fits list permutation in_range
          (let less_e = later in All-weaker (λ f. e.0 ≤ f.0) (λ f. run.0 < f.0) (λ f le. omega arith)
          (drop i sorted) next_after)

      -- an entry of a later place
      pub run_other : (new : List (ℕ × ℤ)) (r : ℕ × ℤ) → FitsSigned w64 e.1 → r ≡ e → new ≡ sums ++ entry_of run.0 run.1
          → IsRunAfter sorted (i + 1) new r
      run_other new r e_fits r_is new_is =
          let less_e = later in
          rw (r_is, new_is) (record {
            formal = ended_formal;
            before = All-append (λ f. f.0 < e.0) sums (entry_of run.0 run.1)
                (All-weaker (λ f. f.0 < run.0) (λ f. f.0 < e.0) (λ f before. omega arith) sums kept.before)
                (entry_all (λ f. f.0 < e.0) run.0 run.1 less_e);
            up_to = All-tail (λ f. e.0 ≤ f.0) e (drop (i + 1) sorted)
                (rw (rest_is sorted i e less e_is) at next_after);
            multiplicities = λ p.
                multiplicity-append p (sums ++ entry_of run.0 run.1) (e ∷ [])
                ∙ regroup (multiplicity p (sums ++ entry_of run.0 run.1)) (multiplicity p (take i sorted)) (share p e)
                (multiplicity_push p sums run.0 run.1 ∙ sym (multiplicity_run p))
                ∙ sym (multiplicity_more p sorted i e less e_is);
            room = abs_alone e.1 i e_fits;
          })
        where
          regroup : (new front s : ℤ) → new ≡ front → new +ℤ (s +ℤ pos 0) ≡ front +ℤ s
          regroup new front s e = omega (arith, ints)

          abs_alone : (b : ℤ) (n : ℕ) → FitsSigned w64 b → unsigned_abs b ≤ (n + 1) * 2 ^ 63
          abs_alone b n fits = omega (arith, ints)
