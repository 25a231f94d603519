-- Products of elements as they are read.
use Rattle.std.proofs.Common.{◌≡◌, inl, inr, ap₂, ◌∙◌, subst}
use Rattle.ff_fields.specs.Field.{CodeField}
use Rattle.function_field.specs.Values.{ElemValue, PresValue, Functions, functions, function_of}
use Rattle.ff_text.specs.declared.terms.ElemText.{ElemText}
use Rattle.ff_text.specs.Printed.{WrittenValue}
use Rattle.ff_meaning.specs.declared.refusal.Refusal.{Refusal}
use Rattle.function_field.specs.Limits.{max_degree}
use Rattle.ff_written.specs.LowestTerms.{IsWritten}
use Rattle.ff_meaning.specs.Elements.{IsElementRead}
use Rattle.ff_meaning.specs.Refusals.{IsProductRow}
use Rattle.ff_meaning.proofs.ElementValues.{no_element_row}
use Rattle.ff_session.specs.Steps.{IsProductRead}

module _ (k : CodeField) (f : PresValue) (a b : ElemText) where
  -- x and y are read, z is their product, and w is z as it is written
  pub product_read : (x y z : ElemValue) (w : WrittenValue) → IsElementRead k f.n max_degree a x
      → IsElementRead k f.n max_degree b y
      → function_of k f z ≡ (functions k f).◌⊗◌ (function_of k f x) (function_of k f y)
      → IsWritten k f (function_of k f z) w → IsProductRead k f a b w
  product_read x y z w x_is y_is product low = record {
    is = record {
      left = x_is.within.value;
      is_left = x_is.within.is;
      left_over = x_is.within.over;
      right = y_is.within.value;
      is_right = y_is.within.is;
      right_over = y_is.within.over;
      product = subst (λ (g : Functions k f). IsWritten k f g w)
          (product ∙ ap₂ (functions k f).◌⊗◌ (x_is.same f) (y_is.same f)) low;
    };
    no_row = no_row;
  }
    where
      no_row : (r : Refusal) → ¬ IsProductRow k.ops f.n max_degree a b r
      no_row r (inl row) = no_element_row k.ops f.n max_degree a r x_is.within row
      no_row r (inr row) = no_element_row k.ops f.n max_degree b r y_is.within row.1
