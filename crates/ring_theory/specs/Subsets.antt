-- Subsets of a commutative ring as predicates: subrings, modules over a subring, spans, products and colons.
-- A proof that an element is in a subset is never compared with another, so a predicate may be any family of types.
use Rattle.std.specs.Prelude.{◌≡◌, List, [], ◌∷◌, map, ◌++◌}
use Rattle.ring_lemmas.specs.Ring.{Operations}
use Rattle.ring_lemmas.specs.Sums.{sum_over}

pub record IsSubring {A : Type 0} (R : Operations A) (S : A → Type 0) : Type 0 where
  pub zero_in : S R.𝟘
  pub one_in : S R.𝟙
  pub sum_in : (a b : A) → S a → S b → S (R.◌⊕◌ a b)
  pub neg_in : (a : A) → S a → S (R.⊖◌ a)
  pub product_in : (a b : A) → S a → S b → S (R.◌⊗◌ a b)

pub record IsModule {A : Type 0} (R : Operations A) (S M : A → Type 0) : Type 0 where
  pub zero_in : M R.𝟘
  pub sum_in : (a b : A) → M a → M b → M (R.◌⊕◌ a b)
  pub scale_in : (s a : A) → S s → M a → M (R.◌⊗◌ s a)

-- a multiple of b by a scalar of S, plus a member of a further set
pub record Combined {A : Type 0} (R : Operations A) (S : A → Type 0) (b : A) (Rest : A → Type 0) (a : A) : Type 0 where
  pub scalar : A
  pub scalar_in : S scalar
  pub rest : A
  pub rest_in : Rest rest
  pub is : a ≡ R.◌⊕◌ (R.◌⊗◌ scalar b) rest

-- the sums of multiples, with scalars of S, of the members of a list
abbrev pub Span : {A : Type 0} → Operations A → (A → Type 0) → List A → A → Type 0
Span R S [] a = a ≡ R.𝟘
Span R S (b ∷ bs) a = Combined R S b (Span R S bs) a

-- the two factors of a product, each in its set
pub record Factors {A : Type 0} (M N : A → Type 0) : Type 0 where
  pub left : A
  pub left_in : M left
  pub right : A
  pub right_in : N right

-- the finite sums of products of a member of M and a member of N
abbrev pub Product : {A : Type 0} → Operations A → (A → Type 0) → (A → Type 0) → A → Type 0
Product R M N a = (ps : List (Factors M N)) × (a ≡ sum_over R ps (λ p. R.◌⊗◌ p.left p.right))

-- the elements that take N into M
abbrev pub Colon : {A : Type 0} → Operations A → (A → Type 0) → (A → Type 0) → A → Type 0
Colon {A} R M N z = (y : A) → N y → M (R.◌⊗◌ z y)

-- the products of a member of one list and a member of another
abbrev pub products : {A : Type 0} → Operations A → List A → List A → List A
products R [] cs = []
products R (b ∷ bs) cs = map (R.◌⊗◌ b) cs ++ products R bs cs
