-- Generators of a place from generators of its prime, and of the prime from generators of the place.
use Rattle.prime_theory.proofs.Scalars.{span_wider}
use Rattle.std.proofs.Common.{◌≡◌, List, [], ◌∷◌, ◌++◌, map, refl, ◌∙◌, subst, All}
use Rattle.std.proofs.lemmas.List.Elements.{All-weaker, All-append, All-map}
use Rattle.ring_lemmas.specs.Ring.{CommRing}
use Rattle.ring_theory.specs.Subsets.{IsSubring, IsModule, Span}
use Rattle.ring_theory.specs.Local.{PrimeTo, Locally}
use Rattle.ring_lemmas.proofs.Ring.{mul_left_comm}
use Rattle.ring_theory.proofs.Subsets.{span_module, span_least, span_members, span_multiples, span_append_left, span_append_right}
use Rattle.ring_lemmas.proofs.Solver.{ring, reads, from_one}
use Rattle.prime_theory.specs.Ideals.{IsIdeal, SameSet}
use Rattle.prime_theory.specs.Places.{PlaceOf}

module _ {A : Type 0} (R : CommRing A) (S : A → Type 0) (𝓢 : IsSubring R.ops S) (N : A → Type 0) (p : A)
    (𝓝 : PrimeTo R.ops S N p)
    (O : A → Type 0) (𝓞 : IsSubring R.ops O) (base : (s : A) → S s → O s) where
  infixl 65 ◌⊕◌
  infixl 70 ◌⊗◌
  infixr 80 ⊖◌
  open R use {𝟘, 𝟙, ◌⊕◌, ◌⊗◌, ⊖◌}

  split : (a w b z : A) → a ⊗ w ⊕ b ⊗ p ≡ 𝟙 → a ⊗ (w ⊗ z) ⊕ p ⊗ (b ⊗ z) ≡ z
  split a w b z e =
      from_one R z e (ring R (a ∷ w ∷ b ∷ z ∷ p ∷ []) λ q i. simp (reads, q, i 0, i 1, i 2, i 3, i 4)
      (q.equal _ _ refl))

  -- the place of P over T, between S and B: the rows of P and the multiples by p of generators of B
  pub place_generators : (T : A → Type 0) (𝓣 : IsSubring R.ops T) → ((s : A) → S s → T s)
      → (B : A → Type 0) → IsSubring R.ops B → ((t : A) → T t → B t) → ((a : A) → O a → B a)
      → ((z : A) → B z → Locally R.ops N O z)
      → (P : A → Type 0) → IsIdeal R.ops O P → P p
      → IsModule R.ops T (PlaceOf R.ops B N P)
      → (rows gens : List A) → SameSet P (Span R.ops S rows) → SameSet B (Span R.ops T gens)
      → SameSet (PlaceOf R.ops B N P) (Span R.ops T (rows ++ map (R.ops.◌⊗◌ p) gens))
  place_generators T 𝓣 up B 𝓑 within whole locally P 𝓟 p_in 𝓜 rows gens spanned_P spanned_B z = (
    λ h.
        let k = h.1 in
        let c = 𝓝.comaximal k.factor k.factor_in in
        let all = rows ++ map (R.ops.◌⊗◌ p) gens in
        let first : Span R.ops T all (c.left ⊗ (k.factor ⊗ z))
        = span_append_left R T 𝓣 rows (map (R.ops.◌⊗◌ p) gens) _
        (span_wider R S T up rows _ ((spanned_P _).0 (𝓟.scale_in _ _ (base _ c.left_in) k.multiple_in))) in
        let second : Span R.ops T all (p ⊗ (c.right ⊗ z))
        = span_append_right R T 𝓣 rows (map (R.ops.◌⊗◌ p) gens) _
        (span_multiples R T 𝓣 p gens _ ((spanned_B _).0 (𝓑.product_in _ _ (within _ (up _ c.right_in)) h.0))) in
        subst (Span R.ops T all) (split c.left k.factor c.right z c.is)
        ((span_module R T 𝓣 all).sum_in _ _ first second),
    span_least R T 𝓣 (PlaceOf R.ops B N P) 𝓜 (rows ++ map (R.ops.◌⊗◌ p) gens)
        (All-append (PlaceOf R.ops B N P) rows (map (R.ops.◌⊗◌ p) gens)
        (All-weaker (Span R.ops S rows) (PlaceOf R.ops B N P)
        (λ b m.
        let b_in = (spanned_P b).1 m in
        (whole b (𝓟.within b b_in), record { factor = 𝟙; factor_in = 𝓝.one_in; multiple_in = one b b_in }))
        rows (span_members R S 𝓢 rows))
        (All-map (PlaceOf R.ops B N P) (R.ops.◌⊗◌ p) gens
        (All-weaker (Span R.ops T gens) (λ b. PlaceOf R.ops B N P (p ⊗ b))
        (λ b m.
        let b_in = (spanned_B b).1 m in
        let l = locally b b_in in (
          𝓑.product_in _ _ (whole p (𝓟.within p p_in)) b_in,
          record {
            factor = l.factor;
            factor_in = l.factor_in;
            multiple_in =
                subst P (R.mul_comm _ _ ∙ mul_left_comm R _ _ _) (𝓟.scale_in _ _ l.multiple_in p_in);
          },
        ))
        gens (span_members R T 𝓣 gens))))
        z,
  )
    where
      one : (b : A) → P b → P (𝟙 ⊗ b)
      one b m = 𝓟.scale_in 𝟙 b 𝓞.one_in m

  -- the prime of a place M, the span of gens up to factors of U: w·gens, w one factor that takes them into O, and p
  -- times the rows of O
  pub prime_generators : (M : A → Type 0) → IsModule R.ops S M → M p → ((a b : A) → O a → M b → M (a ⊗ b))
      → (rows gens : List A) → SameSet O (Span R.ops S rows) → ((z : A) → M z → Locally R.ops N (Span R.ops S gens) z)
      → (w : A) → N w → All (λ g. M g × O (w ⊗ g)) gens
      → SameSet (λ z. O z × M z) (Span R.ops S (map (R.ops.◌⊗◌ w) gens ++ map (R.ops.◌⊗◌ p) rows))
  prime_generators M 𝓜 p_in scale rows gens spanned_O spanned_M w w_in cleared z = (
    λ h.
        let k = spanned_M z h.1 in
        let v_in = 𝓝.product_in _ _ k.factor_in w_in in
        let c = 𝓝.comaximal _ v_in in
        let all = map (R.ops.◌⊗◌ w) gens ++ map (R.ops.◌⊗◌ p) rows in
        let 𝓐 = span_module R S 𝓢 all in
        let first : Span R.ops S all (c.left ⊗ (k.factor ⊗ w ⊗ z))
        = 𝓐.scale_in _ _ c.left_in
        (span_append_left R S 𝓢 (map (R.ops.◌⊗◌ w) gens) (map (R.ops.◌⊗◌ p) rows) _
        (subst (Span R.ops S (map (R.ops.◌⊗◌ w) gens)) (turn k.factor w z)
        (span_multiples R S 𝓢 w gens _ k.multiple_in))) in
        let second : Span R.ops S all (p ⊗ (c.right ⊗ z))
        = span_append_right R S 𝓢 (map (R.ops.◌⊗◌ w) gens) (map (R.ops.◌⊗◌ p) rows) _
        (span_multiples R S 𝓢 p rows _ ((spanned_O _).0 (𝓞.product_in _ _ (base _ c.right_in) h.0))) in
        subst (Span R.ops S all) (split c.left (k.factor ⊗ w) c.right z c.is) (𝓐.sum_in _ _ first second),
    span_least R S 𝓢 (λ z. O z × M z) 𝓑oth (map (R.ops.◌⊗◌ w) gens ++ map (R.ops.◌⊗◌ p) rows)
        (All-append (λ z. O z × M z) (map (R.ops.◌⊗◌ w) gens) (map (R.ops.◌⊗◌ p) rows)
        (All-map (λ z. O z × M z) (R.ops.◌⊗◌ w) gens
        (All-weaker (λ g. M g × O (w ⊗ g)) (λ g. O (w ⊗ g) × M (w ⊗ g))
        (λ g m. (m.1, 𝓜.scale_in w g (𝓝.within w w_in) m.0)) gens cleared))
        (All-map (λ z. O z × M z) (R.ops.◌⊗◌ p) rows
        (All-weaker (Span R.ops S rows) (λ b. O (p ⊗ b) × M (p ⊗ b))
        (λ b m.
        let b_in = (spanned_O b).1 m in
        (𝓞.product_in _ _ (base p 𝓝.p_in) b_in, subst M (R.mul_comm _ _) (scale b p b_in p_in)))
        rows (span_members R S 𝓢 rows))))
        z,
  )
    where
      turn : (x w z : A) → w ⊗ (x ⊗ z) ≡ x ⊗ w ⊗ z
      turn x w z = ring R (x ∷ w ∷ z ∷ []) λ q i. simp (reads, q, i 0, i 1, i 2) (q.equal _ _ refl)

      𝓑oth : IsModule R.ops S (λ z. O z × M z)
      𝓑oth = record {
        zero_in = (𝓞.zero_in, 𝓜.zero_in);
        sum_in = λ a b h k. (𝓞.sum_in _ _ h.0 k.0, 𝓜.sum_in _ _ h.1 k.1);
        scale_in = λ s a m h. (𝓞.product_in _ _ (base s m) h.0, 𝓜.scale_in _ _ m h.1);
      }
