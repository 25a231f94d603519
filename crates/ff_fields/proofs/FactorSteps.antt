-- Steps of the search for a factor of the modulus.
use Rattle.std.proofs.Common.{◌≡◌, ℕ, suc, ◌+◌, ◌*◌, ◌/◌, ◌^◌, ◌<◌, ◌≤◌, List, ◌⊎◌, inl, inr, ◌∙◌, arith, subst, pow-suc, mul_comm, eq-or-lt_of_le}
use Rattle.std.proofs.Math.Nat.{mul-le-mul_right, pow-le-pow_right}
use Rattle.std.proofs.lemmas.Bool.{cases_lt}
use Rattle.ff_fields.specs.Modulus.{IsMonicCode, IsFactor, NoFactorBelow}

module _ (p : ℕ) (above : 1 < p) where
  pos : 0 < p
  pos = omega (arith, above)

  pub doubled : (e : ℕ) → 2 * p ^ e ≤ p ^ suc e
  doubled e =
      let two : 2 * p ^ e ≤ p * p ^ e = mul-le-mul_right (p ^ e) above in
      let next : p ^ suc e ≡ p * p ^ e = pow-suc p e ∙ mul_comm (p ^ e) p in
      omega (arith, two, next)

  -- a monic code below a power has a lower degree
  pub degree_below : (e n d : ℕ) → IsMonicCode p e d → d < p ^ n → e < n
  degree_below e n d monic less = go (cases_lt e n)
    where
      go : (e < n) ⊎ (n ≤ e) → e < n
      go (inl low) = low
      go (inr high) =
          let up : p ^ n ≤ p ^ e = pow-le-pow_right pos high in
          let least = monic.least in
          absurd (omega (arith, up, least, less))

  module _ (m : ℕ) (modulus : List ℕ) where
    pub none_first : NoFactorBelow p m modulus (p ^ 1)
    none_first e d c some half monic less c_in factor = let low = degree_below e 1 d monic less in absurd
        (omega (arith, some, low))

    pub none_more : (d : ℕ) → NoFactorBelow p m modulus d → ((c : ℕ) → c < p ^ m → ¬ IsFactor p m modulus d c)
        → NoFactorBelow p m modulus (d + 1)
    none_more d before here e x c some half monic less c_in factor = go (eq-or-lt_of_le le)
      where
        le : x ≤ d
        le = omega (arith, less)

        go : (x ≡ d) ⊎ (x < d) → ⊥
        go (inl same) = here c c_in (subst (λ w. IsFactor p m modulus w c) same factor)
        go (inr lower) = before e x c some half monic lower c_in factor

    -- no monic code lies between twice a power and the next power
    pub none_between : (n d : ℕ) → 2 * p ^ n ≤ d → NoFactorBelow p m modulus d → NoFactorBelow p m modulus (p ^ (n + 1))
    none_between n d far none e x c some half monic less c_in factor =
        let low = degree_below e (n + 1) x monic less in
        let up : p ^ e ≤ p ^ n = pow-le-pow_right pos (omega (arith, low)) in
        let under = monic.below in
        none e x c some half monic (omega (arith, up, under, far)) c_in factor

    -- no degree is left
    pub none_all : (n : ℕ) → m / 2 + 1 ≤ n → NoFactorBelow p m modulus (p ^ n) → (bound : ℕ)
        → NoFactorBelow p m modulus bound
    none_all n far none bound e x c some half monic less c_in factor =
        let low : suc e ≤ n = omega (arith, far, half) in
        let up : p ^ suc e ≤ p ^ n = pow-le-pow_right pos low in
        let under = monic.below in
        none e x c some half monic (omega (arith, up, under, doubled e)) c_in factor
