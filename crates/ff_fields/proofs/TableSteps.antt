-- The tables of powers and logarithms, and what they answer.
use Rattle.std.specs.Prelude.{◌≢◌, ◌-◌, ◌*◌, ◌%◌, ◌≤◌, ◌⊎◌, List, [], ◌∷◌, ◌++◌, length, get_or, take, drop}
use Rattle.std.proofs.Common.{◌≡◌, ℕ, zero, suc, ◌+◌, ◌<◌, refl, sym, ap, ap₂, subst, inl, inr, ◌∙◌, arith, mod-lt, eq-or-lt_of_le}
use Rattle.std.proofs.Math.ListN.{set, get_or-append}
use Rattle.std.proofs.Math.Seq.{get_or-append_seam, take-append_seam}
use Rattle.std.proofs.lemmas.Nat.{mul-mod_second}
use Rattle.std.proofs.lemmas.Grind.{get_or-set_at, get_or_default_zero}
use Rattle.std.proofs.lemmas.List.{get_or-set_other}
use Rattle.std.proofs.lemmas.Bool.{cases_eq, cases_lt}
use Rattle.ff_fields.specs.declared.table.Power.{Power}
use Rattle.ff_fields.specs.declared.standard.Standard.{Standard}
use Rattle.ff_fields.specs.Field.{FieldOps, CodeField, pow_of}
use Rattle.ff_fields.specs.Standards.{standard_of}
use Rattle.ff_fields.specs.Code.{zero_in}
use Rattle.ff_fields.specs.Over.{IsOver}
use Rattle.ff_fields.specs.Tables.{HasPowers, IsLog, IsPowerTable, IsLogTable, IsTables, AreWrittenTables, IsPowerOf}
use Rattle.ff_fields.proofs.Power.{pow_of_below, mul_one}
use Rattle.ff_fields.proofs.PowerLaws.{pow_of_add, pow_of_mul, null_mul, inverse_is, pow_of_some, pow_of_order, pow_of_mod, pow_of_gap}
use Rattle.ff_fields.proofs.Onto.{onto}

module _ (k : CodeField) (g : ℕ) (g_in : g < k.size) (g_some : g ≢ 0) where
  pub power_below : (m v : ℕ) → v ≡ pow_of k.ops g m → v < k.size
  power_below m v is = subst (λ w. w < k.size) (sym is) (pow_of_below k g m g_in)

  -- powers with different exponents up to m differ, where none of them but the first is 1
  pub powers_apart : (m i j : ℕ) → ((e : ℕ) → 0 < e → e ≤ m → pow_of k.ops g e ≢ 1) → i < j → j ≤ m
      → pow_of k.ops g i ≢ pow_of k.ops g j
  powers_apart m i j not_one less within same =
      not_one (j - i) (omega arith) (omega arith) (pow_of_gap k g i j g_in g_some (omega arith) same)

  pub pow_of_next : (m v : ℕ) → v ≡ pow_of k.ops g m → k.mul v g ≡ pow_of k.ops g (m + 1)
  pow_of_next m v is =
      let next : suc m ≡ m + 1 = omega arith in
      ap (λ w. k.mul w g) is ∙ k.laws.mul_comm (pow_of k.ops g m) g (pow_of_below k g m g_in) g_in
      ∙ ap (pow_of k.ops g) next

  pub not_one_more : (m : ℕ) → ((e : ℕ) → 0 < e → e ≤ m → pow_of k.ops g e ≢ 1) → pow_of k.ops g (m + 1) ≢ 1 → (e : ℕ)
      → 0 < e → e ≤ m + 1 → pow_of k.ops g e ≢ 1
  not_one_more m before last e pos le = go (eq-or-lt_of_le le)
    where
      go : (e ≡ m + 1) ⊎ (e < m + 1) → pow_of k.ops g e ≢ 1
      go (inl same) one = last (ap (pow_of k.ops g) (sym same) ∙ one)
      go (inr less) one = before e pos (omega arith) one

  write_power : (m : ℕ) (codes logs : List ℕ) → m < length codes → length logs ≡ k.size
      → AreWrittenTables k.ops g m codes logs → ((e : ℕ) → 0 < e → e ≤ m → pow_of k.ops g e ≢ 1)
      → AreWrittenTables k.ops g (m + 1) (set codes m (pow_of k.ops g m)) (set logs (pow_of k.ops g m) m)
  write_power m codes logs m_in long before not_one = record {
    not_one = λ i pos less. not_one i pos (omega arith);
    code_is = λ i less. let le : i ≤ m = omega arith in code i (eq-or-lt_of_le le);
    log_is = λ i less. let le : i ≤ m = omega arith in log i (eq-or-lt_of_le le);
  }
    where
      power_in : pow_of k.ops g m < length logs
      power_in = subst (λ w. pow_of k.ops g m < w) (sym long) (pow_of_below k g m g_in)

      code : (i : ℕ) → (i ≡ m) ⊎ (i < m) → get_or (set codes m (pow_of k.ops g m)) i 0 ≡ pow_of k.ops g i
      code i (inl e) = get_or-set_at codes m i (pow_of k.ops g m) 0 e m_in ∙ ap (pow_of k.ops g) (sym e)
      code i (inr less) = get_or-set_other codes m i (pow_of k.ops g m) 0 (λ e. absurd (omega (arith, e, less)))
          ∙ before.code_is i less

      log : (i : ℕ) → (i ≡ m) ⊎ (i < m) → get_or (set logs (pow_of k.ops g m) m) (pow_of k.ops g i) 0 ≡ i
      log i (inl e) = get_or-set_at logs (pow_of k.ops g m) (pow_of k.ops g i) m 0 (ap (pow_of k.ops g) e) power_in
          ∙ sym e
      log i (inr less) =
          get_or-set_other logs (pow_of k.ops g m) (pow_of k.ops g i) m 0
          (powers_apart m i m not_one less (omega arith))
          ∙ before.log_is i less

  pub write_step : (m v : ℕ) (codes logs : List ℕ) → v ≡ pow_of k.ops g m → m < length codes → length logs ≡ k.size
      → AreWrittenTables k.ops g m codes logs → ((e : ℕ) → 0 < e → e ≤ m → pow_of k.ops g e ≢ 1)
      → AreWrittenTables k.ops g (m + 1) (set codes m v) (set logs v m)
  write_step m v codes logs is m_in long before not_one =
      subst (λ w. AreWrittenTables k.ops g (m + 1) (set codes m w) (set logs w m)) (sym is)
      (write_power m codes logs m_in long before not_one)

  pub mark_stays : (m v : ℕ) (logs : List ℕ) → v ≡ pow_of k.ops g m → get_or logs 0 0 ≡ 65535
      → get_or (set logs v m) 0 0 ≡ 65535
  mark_stays m v logs is mark =
      get_or-set_other logs v 0 m 0 (λ e. pow_of_some k g m g_in g_some (sym is ∙ sym e)) ∙ mark

  -- powers that come again too early are not q - 1
  pub comes_early : (m : ℕ) → 0 < m → m < k.size - 1 → pow_of k.ops g m ≡ 1 → ¬ HasPowers k.ops g (k.size - 1)
  comes_early m pos less one = λ all. all 0 m pos less (sym one)

  -- all powers of g as they stand in the tables
  module _ (codes logs : List ℕ) (logs_long : length logs ≡ k.size) (mark : get_or logs 0 0 ≡ 65535)
      (written : AreWrittenTables k.ops g (k.size - 1) codes logs) where
    differ : (i j : ℕ) → i < j → j < k.size - 1 → pow_of k.ops g i ≢ pow_of k.ops g j
    differ i j less within = powers_apart (k.size - 1 - 1) i j (λ e pos le. written.not_one e pos (omega arith)) less
        (omega arith)

    pub has_powers : HasPowers k.ops g (k.size - 1)
    has_powers = differ

    log_of : (c : ℕ) → c < k.size → c ≢ 0 → (i : ℕ) × ((i < k.size - 1) × (pow_of k.ops g i ≡ c))
    log_of c c_in some =
        let found = onto (k.size - 1) (λ i. pow_of k.ops g i - 1) within apart (c - 1) (omega (arith, c_in, some)) in
        (found.0, (found.1.0, same found.0 found.1.1))
      where
        positive : (i : ℕ) → 0 < pow_of k.ops g i
        positive i = let other = pow_of_some k g i g_in g_some in omega (arith, other)

        within : (i : ℕ) → i < k.size - 1 → pow_of k.ops g i - 1 < k.size - 1
        within i less = omega (arith, pow_of_below k g i g_in, positive i)

        same : (i : ℕ) → pow_of k.ops g i - 1 ≡ c - 1 → pow_of k.ops g i ≡ c
        same i e = omega (arith, e, positive i, some)

        apart : (i j : ℕ) → i < k.size - 1 → j < k.size - 1 → pow_of k.ops g i - 1 ≡ pow_of k.ops g j - 1 → i ≡ j
        apart i j i_in j_in e = go (cases_eq i j) (cases_lt i j)
          where
            equal : pow_of k.ops g i ≡ pow_of k.ops g j
            equal = omega (arith, e, positive i, positive j)

            go : (i ≡ j) ⊎ (i ≡ j → ⊥) → (i < j) ⊎ (j ≤ i) → i ≡ j
            go (inl same) order = same
            go (inr other) (inl less) = absurd (differ i j less j_in equal)
            go (inr other) (inr le) = absurd (differ j i (omega (arith, le, other)) i_in (sym equal))

    log_entry : (c : ℕ) → c < k.size → IsLog k.ops g c (get_or logs c 0)
    log_entry c c_in = record {
      of_zero = λ e. ap (λ w. get_or logs w 0) e ∙ mark;
      of_some = λ some.
          let found = log_of c c_in some in
          let is : get_or logs c 0 ≡ found.0 = ap (λ w. get_or logs w 0) (sym found.1.1)
          ∙ written.log_is found.0 found.1.0 in
          (subst (λ w. w < k.size - 1) (sym is) found.1.0, ap (pow_of k.ops g) is ∙ found.1.1);
    }

    pub codes_over : length codes ≡ k.size - 1 → IsOver k.ops codes
    codes_over long = record {
      each = λ i d less.
          let within = subst (λ w. i < w) long less in
          subst (λ w. w < k.size) (sym (get_or_default_zero codes i d less ∙ written.code_is i within))
          (pow_of_below k g i g_in);
    }

    pub log_table : IsLogTable k.ops g logs
    log_table = record { long = logs_long; log_is = log_entry }

    pub power_table : (powers : List Power) → length codes ≡ k.size - 1 → length powers ≡ length codes
        → ((i : ℕ) → i < length codes → IsPowerOf k.ops codes logs powers i) → IsPowerTable k.ops g powers
    power_table powers codes_long long each = record {
      long = long ∙ codes_long;
      code_is = λ i d less. (each i (inside i less)).code_is d ∙ written.code_is i (within i less);
      next_is = λ i d less.
          let sum = k.add 1 (pow_of k.ops g i) in
          let sum_in = k.laws.add_below 1 (pow_of k.ops g i) k.laws.one_below (pow_of_below k g i g_in) in
          let is = (each i (inside i less)).next_is d
          ∙ ap (λ c. get_or logs (k.add 1 c) 0) (written.code_is i (within i less)) in
          subst (IsLog k.ops g sum) (sym is) (log_entry sum sum_in);
    }
      where
        inside : (i : ℕ) → i < length powers → i < length codes
        inside i less = subst (λ w. i < w) long less

        within : (i : ℕ) → i < length powers → i < k.size - 1
        within i less = subst (λ w. i < w) (long ∙ codes_long) less

-- where none of the codes from 1 on serves, 0 does not either
pub none_at_zero : (k : CodeField) → ((g : ℕ) → 0 < g → g < k.size → ¬ HasPowers k.ops g (k.size - 1))
    → ¬ HasPowers k.ops 0 (k.size - 1)
none_at_zero k none all = go (cases_lt (k.size - 1) 2) (cases_lt (k.size - 1) 3)
  where
    nothing : k.size - 1 < 2 → HasPowers k.ops 1 (k.size - 1)
    nothing small i j less within = λ same. absurd (omega (arith, small, less, within))

    two : k.size - 1 < 3 → 2 < k.size → HasPowers k.ops 2 (k.size - 1)
    two small two_in i j less within same =
        let i_is : i ≡ 0 = omega (arith, small, less, within) in
        let j_is : j ≡ 1 = omega (arith, small, less, within) in
        let one_is : 1 ≡ 2 = ap (pow_of k.ops 2) (sym i_is) ∙ same ∙ ap (pow_of k.ops 2) j_is ∙ mul_one k 2 two_in in
        absurd (omega (arith, one_is))

    go : (k.size - 1 < 2) ⊎ (2 ≤ k.size - 1) → (k.size - 1 < 3) ⊎ (3 ≤ k.size - 1) → ⊥
    go (inl small) order = none 1 (omega arith) k.laws.one_below (nothing small)
    go (inr large) (inl small) = let two_in : 2 < k.size = omega (arith, large) in none 2 (omega arith) two_in
        (two small two_in)
    go (inr large) (inr larger) =
        let first = mul_one k 0 (zero_in k) in
        all 1 2 (omega arith) (omega (arith, larger)) (first ∙ sym (ap (k.mul 0) first ∙ null_mul k 0 (zero_in k)))

-- what the tables answer
module _ (k : CodeField) (g minus_one : ℕ) (powers : List Power) (logs : List ℕ)
    (T : IsTables k.ops g minus_one powers logs) where
  abbrev n : ℕ
  n = length powers

  long : length powers ≡ k.size - 1
  long = T.powers_are.long

  pub n_pos : 0 < length powers
  n_pos = omega (arith, long, k.laws.one_below)

  pub log_in : (a : ℕ) → a < k.size → a ≢ 0 → get_or logs a 0 < length powers
  log_in a a_in some = subst (λ w. get_or logs a 0 < w) (sym long) ((T.logs_are.log_is a a_in).of_some some).0

  log_is : (a : ℕ) → a < k.size → a ≢ 0 → pow_of k.ops g (get_or logs a 0) ≡ a
  log_is a a_in some = ((T.logs_are.log_is a a_in).of_some some).1

  power_mod : (e : ℕ) → pow_of k.ops g (e % length powers) ≡ pow_of k.ops g e
  power_mod e = ap (λ w. pow_of k.ops g (e % w)) long ∙ pow_of_mod k g e T.g_in T.g_some

  -- the entry at an exponent modulo q - 1
  pub entry_is : (e i : ℕ) (d : Power) → i ≡ e % length powers → (get_or powers i d).code ≡ pow_of k.ops g e
  entry_is e i d is =
      let less : i < length powers = subst (λ w. w < length powers) (sym is) (mod-lt e n_pos) in
      T.powers_are.code_is i d less ∙ ap (pow_of k.ops g) is ∙ power_mod e

  pub product_entry : (a b i : ℕ) (d : Power) → a < k.size → b < k.size → a ≢ 0 → b ≢ 0
      → i ≡ (get_or logs a 0 + get_or logs b 0) % length powers → (get_or powers i d).code ≡ k.mul a b
  product_entry a b i d a_in b_in a_some b_some is =
      entry_is (get_or logs a 0 + get_or logs b 0) i d is
      ∙ pow_of_add k g (get_or logs a 0) (get_or logs b 0) T.g_in
      ∙ ap (λ w. k.mul w (pow_of k.ops g (get_or logs b 0))) (log_is a a_in a_some)
      ∙ ap (k.mul a) (log_is b b_in b_some)

  -- an exponent of g that gives a product
  product_power : (a b e : ℕ) → a < k.size → b < k.size → a ≢ 0 → b ≢ 0
      → e ≡ (get_or logs a 0 + get_or logs b 0) % length powers → pow_of k.ops g e ≡ k.mul a b
  product_power a b e a_in b_in a_some b_some is =
      ap (pow_of k.ops g) is
      ∙ power_mod (get_or logs a 0 + get_or logs b 0)
      ∙ pow_of_add k g (get_or logs a 0) (get_or logs b 0) T.g_in
      ∙ ap (λ w. k.mul w (pow_of k.ops g (get_or logs b 0))) (log_is a a_in a_some)
      ∙ ap (k.mul a) (log_is b b_in b_some)

  pub inverse_entry : (a i : ℕ) (d : Power) → a < k.size → a ≢ 0 → i ≡ (length powers - get_or logs a 0) % length powers
      → (get_or powers i d).code ≡ k.inv a
  inverse_entry a i d a_in some is =
      let log = get_or logs a 0 in
      let log_below = log_in a a_in some in
      let whole : log + (length powers - log) ≡ k.size - 1 = omega (arith, log_below, long) in
      let power = pow_of k.ops g (length powers - log) in
      let power_in = pow_of_below k g (length powers - log) T.g_in in
      entry_is (length powers - log) i d is
      ∙ inverse_is k a power a_in power_in some
      (ap (λ w. k.mul w power) (sym (log_is a a_in some))
      ∙ sym (pow_of_add k g log (length powers - log) T.g_in)
      ∙ ap (pow_of k.ops g) whole
      ∙ pow_of_order k g T.g_in T.g_some)

  pub power_entry : (a e i : ℕ) (d : Power) → a < k.size → a ≢ 0
      → i ≡ get_or logs a 0 * (e % length powers) % length powers → (get_or powers i d).code ≡ pow_of k.ops a e
  power_entry a e i d a_in some is =
      let log = get_or logs a 0 in
      entry_is (log * e) i d (is ∙ mul-mod_second log e (length powers))
      ∙ sym (pow_of_mul k g log e T.g_in)
      ∙ ap (λ w. pow_of k.ops w e) (log_is a a_in some)

  -- a + b by the logarithm of 1 + b / a, for a power b
  module _ (a b e gap : ℕ) (d : Power) (a_in : a < k.size) (a_some : a ≢ 0) (b_is : pow_of k.ops g e ≡ b)
      (gap_is : gap ≡ (e + (length powers - get_or logs a 0)) % length powers) where
    abbrev log : ℕ
    log = get_or logs a 0

    abbrev rest : ℕ
    rest = pow_of k.ops g gap

    abbrev next : ℕ
    next = (get_or powers gap d).next

    rest_in : rest < k.size
    rest_in = pow_of_below k g gap T.g_in

    pub gap_in : gap < length powers
    gap_in = subst (λ w. w < length powers) (sym gap_is) (mod-lt _ n_pos)

    entry : IsLog k.ops g (k.add 1 rest) next
    entry = T.powers_are.next_is gap d gap_in

    second : b ≡ k.mul a rest
    second =
        let log_below = log_in a a_in a_some in
        let power_a = log_is a a_in a_some in
        let whole : log + (e + (length powers - log)) ≡ length powers + e = omega (arith, log_below) in
        let turn : pow_of k.ops g (length powers) ≡ 1 = ap (pow_of k.ops g) long ∙ pow_of_order k g T.g_in T.g_some in
        let power_b = pow_of k.ops g e in
        let power_b_in = pow_of_below k g e T.g_in in
        sym (
        ap (λ w. k.mul w rest) (sym power_a)
        ∙ ap (λ w. k.mul (pow_of k.ops g log) w) (ap (pow_of k.ops g) gap_is ∙ power_mod _)
        ∙ sym (pow_of_add k g log _ T.g_in)
        ∙ ap (pow_of k.ops g) whole
        ∙ pow_of_add k g (length powers) e T.g_in
        ∙ ap (λ w. k.mul w power_b) turn
        ∙ k.laws.one_mul power_b power_b_in
        ∙ b_is
        )

    sum_in : k.add 1 rest < k.size
    sum_in = k.laws.add_below 1 rest k.laws.one_below rest_in

    sum : k.add a b ≡ k.mul a (k.add 1 rest)
    sum =
        ap (λ w. k.add a w) second
        ∙ ap (λ w. k.add w (k.mul a rest)) (sym (mul_one k a a_in))
        ∙ sym (k.laws.mul_add a 1 rest a_in k.laws.one_below rest_in)

    pub next_some : next ≢ 65535 → (k.add 1 rest) ≢ 0
    next_some other null = other (entry.of_zero null)

    pub next_in : next ≢ 65535 → next < length powers
    next_in other = subst (λ w. next < w) (sym long) (entry.of_some (next_some other)).0

    pub sum_null : next ≡ 65535 → 0 ≡ k.add a b
    sum_null marked = sym (sum ∙ ap (k.mul a) (null (cases_eq (k.add 1 rest) 0)) ∙ null_mul k a a_in)
      where
        null : (k.add 1 rest ≡ 0) ⊎ (k.add 1 rest ≡ 0 → ⊥) → k.add 1 rest ≡ 0
        null (inl e) = e
        null (inr some) = let small = (entry.of_some some).0 in absurd
            (omega (arith, small, marked, k.laws.size_within))

    pub sum_entry : (i : ℕ) (d' : Power) → next ≢ 65535 → i ≡ (log + next) % length powers
        → (get_or powers i d').code ≡ k.add a b
    sum_entry i d' other is =
        let next_is = (entry.of_some (next_some other)).1 in
        entry_is (log + next) i d' is
        ∙ pow_of_add k g log next T.g_in
        ∙ ap (λ w. k.mul w (pow_of k.ops g next)) (log_is a a_in a_some)
        ∙ ap (k.mul a) next_is
        ∙ sym sum

  -- a negative as a product with -1
  pub negative_is : (a : ℕ) → a < k.size → k.mul minus_one a ≡ k.neg a
  negative_is a a_in =
      let one_neg = k.laws.neg_below 1 k.laws.one_below in
      let product = k.mul (k.neg 1) a in
      let product_in = k.laws.mul_below (k.neg 1) a one_neg a_in in
      let neg_in = k.laws.neg_below a a_in in
      let cancels : k.add a product ≡ 0 =
      ap (λ w. k.add w product) (sym (mul_one k a a_in))
      ∙ ap (λ w. k.add (k.mul a 1) w) (k.laws.mul_comm (k.neg 1) a one_neg a_in)
      ∙ sym (k.laws.mul_add a 1 (k.neg 1) a_in k.laws.one_below one_neg)
      ∙ ap (k.mul a) (k.laws.add_comm 1 (k.neg 1) k.laws.one_below one_neg ∙ k.laws.neg_add 1 k.laws.one_below)
      ∙ null_mul k a a_in in
      ap (λ w. k.mul w a) T.minus_one_is
      ∙ sym (k.laws.zero_add product product_in)
      ∙ ap (λ w. k.add w product) (sym (k.laws.neg_add a a_in))
      ∙ k.laws.add_assoc (k.neg a) a product neg_in a_in product_in
      ∙ ap (k.add (k.neg a)) cancels
      ∙ k.laws.add_comm (k.neg a) 0 neg_in (zero_in k)
      ∙ k.laws.zero_add (k.neg a) neg_in

  pub minus_one_in : minus_one < k.size
  minus_one_in = subst (λ w. w < k.size) (sym T.minus_one_is) (k.laws.neg_below 1 k.laws.one_below)

  -- the same, of what was read from the tables

  log_read : (a la : ℕ) → a < k.size → la ≡ get_or logs a la → la ≡ get_or logs a 0
  log_read a la a_in is = is ∙ get_or_default_zero logs a la (subst (λ w. a < w) (sym T.logs_are.long) a_in)

  pub log_below : (a la m : ℕ) → a < k.size → a ≢ 0 → la ≡ get_or logs a la → m ≡ length powers → la < m
  log_below a la m a_in some is m_is =
      let small = log_in a a_in some in
      let same = log_read a la a_in is in
      omega (arith, small, same, m_is)

  pub product_at : (a b la lb m i : ℕ) (entry : Power) → a < k.size → b < k.size → a ≢ 0 → b ≢ 0 → la ≡ get_or logs a la
      → lb ≡ get_or logs b lb → m ≡ length powers → i ≡ (la + lb) % m → entry ≡ get_or powers i entry
      → entry.code ≡ k.mul a b
  product_at a b la lb m i entry a_in b_in a_some b_some la_is lb_is m_is i_is read =
      ap (λ (e : Power). e.code) read
      ∙ product_entry a b i entry a_in b_in a_some b_some
      (i_is ∙ ap₂ (λ x y. (x + y) % m) (log_read a la a_in la_is) (log_read b lb b_in lb_is)
      ∙ ap (λ w. (get_or logs a 0 + get_or logs b 0) % w) m_is)

  pub inverse_at : (a la m i : ℕ) (entry : Power) → a < k.size → a ≢ 0 → la ≡ get_or logs a la → m ≡ length powers
      → i ≡ (m - la) % m → entry ≡ get_or powers i entry → entry.code ≡ k.inv a
  inverse_at a la m i entry a_in some la_is m_is i_is read =
      ap (λ (e : Power). e.code) read
      ∙ inverse_entry a i entry a_in some
      (i_is ∙ ap (λ x. (m - x) % m) (log_read a la a_in la_is) ∙ ap (λ w. (w - get_or logs a 0) % w) m_is)

  pub power_at : (a e la m i : ℕ) (entry : Power) → a < k.size → a ≢ 0 → la ≡ get_or logs a la → m ≡ length powers
      → i ≡ la * (e % m) % m → entry ≡ get_or powers i entry → entry.code ≡ pow_of k.ops a e
  power_at a e la m i entry a_in some la_is m_is i_is read =
      ap (λ (e : Power). e.code) read
      ∙ power_entry a e i entry a_in some
      (i_is ∙ ap (λ x. x * (e % m) % m) (log_read a la a_in la_is) ∙ ap (λ w. get_or logs a 0 * (e % w) % w) m_is)

  pub product_power_at : (a b la lb m e : ℕ) → a < k.size → b < k.size → a ≢ 0 → b ≢ 0 → la ≡ get_or logs a la
      → lb ≡ get_or logs b lb → m ≡ length powers → e ≡ (la + lb) % m → pow_of k.ops g e ≡ k.mul a b
  product_power_at a b la lb m e a_in b_in a_some b_some la_is lb_is m_is e_is =
      product_power a b e a_in b_in a_some b_some
      (e_is ∙ ap₂ (λ x y. (x + y) % m) (log_read a la a_in la_is) (log_read b lb b_in lb_is)
      ∙ ap (λ w. (get_or logs a 0 + get_or logs b 0) % w) m_is)

  module _ (a b la e m gap : ℕ) (at_gap : Power) (a_in : a < k.size) (a_some : a ≢ 0) (la_is : la ≡ get_or logs a la)
      (b_is : pow_of k.ops g e ≡ b) (m_is : m ≡ length powers) (gap_is : gap ≡ (e + (m - la)) % m)
      (read : at_gap ≡ get_or powers gap at_gap) where
    gap_same : gap ≡ (e + (length powers - get_or logs a 0)) % length powers
    gap_same =
        gap_is
        ∙ ap (λ y. (e + (m - y)) % m) (log_read a la a_in la_is)
        ∙ ap (λ w. (e + (w - get_or logs a 0)) % w) m_is

    next_same : at_gap.next ≡ (get_or powers gap at_gap).next
    next_same = ap (λ (e : Power). e.next) read

    other_at : at_gap.next ≢ 65535 → (get_or powers gap at_gap).next ≢ 65535
    other_at other e = other (next_same ∙ e)

    pub sum_null_at : at_gap.next ≡ 65535 → 0 ≡ k.add a b
    sum_null_at marked = sum_null a b e gap at_gap a_in a_some b_is gap_same (sym next_same ∙ marked)

    pub next_at : at_gap.next ≢ 65535 → at_gap.next < m
    next_at other =
        let small = next_in a b e gap at_gap a_in a_some b_is gap_same (other_at other) in
        omega (arith, small, next_same, m_is)

    pub sum_at : (i : ℕ) (entry : Power) → at_gap.next ≢ 65535 → i ≡ (la + at_gap.next) % m
        → entry ≡ get_or powers i entry → entry.code ≡ k.add a b
    sum_at i entry other i_is found =
        ap (λ (e : Power). e.code) found
        ∙ sum_entry a b e gap at_gap a_in a_some b_is gap_same i entry (other_at other)
        (i_is ∙ ap₂ (λ x y. (x + y) % m) (log_read a la a_in la_is) next_same
        ∙ ap (λ w. (get_or logs a 0 + (get_or powers gap at_gap).next) % w) m_is)

-- a product with 0, and a positive power of 0
pub zero_product : (k : CodeField) (a b : ℕ) → a < k.size → b < k.size → (a ≡ 0) ⊎ ((a ≡ 0 → ⊥) × (b ≡ 0))
    → 0 ≡ k.mul a b
zero_product k a b a_in b_in (inl e) = sym
    (ap (λ w. k.mul w b) e ∙ k.laws.mul_comm 0 b (zero_in k) b_in ∙ null_mul k b b_in)
zero_product k a b a_in b_in (inr p) = sym (ap (k.mul a) p.1 ∙ null_mul k a a_in)

pub zero_power : (k : CodeField) (a e : ℕ) → a ≡ 0 → e ≢ 0 → 0 ≡ pow_of k.ops a e
zero_power k a zero a_is some = absurd (some refl)
zero_power k a (suc e) a_is some =
    let rest = pow_of k.ops 0 e in
    let rest_in = pow_of_below k 0 e (zero_in k) in
    sym (ap (λ w. pow_of k.ops w (suc e)) a_is ∙ k.laws.mul_comm 0 rest (zero_in k) rest_in ∙ null_mul k rest rest_in)

-- one more entry of the table of powers
pub push_step : (k : FieldOps) (codes logs : List ℕ) (before after : List Power) (p : Power) (m : ℕ)
    → after ≡ before ++ p ∷ [] → length before ≡ m → ((i : ℕ) → i < m → IsPowerOf k codes logs before i)
    → p.code ≡ get_or codes m 0 → p.next ≡ get_or logs (k.add 1 (get_or codes m 0)) 0 → (i : ℕ) → i < m + 1
    → IsPowerOf k codes logs after i
push_step k codes logs before after p m after_is long each code_is next_is i less =
    let le : i ≤ m = omega arith in
    subst (λ w. IsPowerOf k codes logs w i) (sym after_is) (go (eq-or-lt_of_le le))
  where
    last : (d : Power) → i ≡ m → get_or (before ++ p ∷ []) i d ≡ p
    last d e = ap (λ w. get_or (before ++ p ∷ []) w d) (e ∙ sym long) ∙ get_or-append_seam before p [] d

    go : (i ≡ m) ⊎ (i < m) → IsPowerOf k codes logs (before ++ p ∷ []) i
    go (inl e) = record {
      code_is = λ d. ap (λ (w : Power). w.code) (last d e) ∙ code_is ∙ ap (λ w. get_or codes w 0) (sym e);
      next_is = λ d. ap (λ (w : Power). w.next) (last d e) ∙ next_is
          ∙ ap (λ w. get_or logs (k.add 1 (get_or codes w 0)) 0) (sym e);
    }
    go (inr smaller) =
        let inside : i < length before = subst (λ w. i < w) (sym long) smaller in
        record {
          code_is = λ d. ap (λ (w : Power). w.code) (get_or-append before (p ∷ []) d i inside)
              ∙ (each i smaller).code_is d;
          next_is = λ d. ap (λ (w : Power). w.next) (get_or-append before (p ∷ []) d i inside)
              ∙ (each i smaller).next_is d;
        }

-- the tables of a field that is seen as another value
pub tables_at : (base now : Standard) (g minus_one : ℕ) (powers : List Power) (logs : List ℕ) → base ≡ now
    → IsTables (standard_of base).ops g minus_one powers logs → IsTables (standard_of now).ops g minus_one powers logs
tables_at base now g minus_one powers logs same T = subst (λ v. IsTables (standard_of v).ops g minus_one powers logs)
    same T

-- a list that was written through a slice of the whole
pub written_back : (xs ys : List ℕ) (m : ℕ) → m ≡ length xs → take m (xs ++ drop (length xs) ys) ≡ xs
written_back xs ys m is = ap (λ w. take w (xs ++ drop (length xs) ys)) is ∙ take-append_seam xs (drop (length xs) ys)
