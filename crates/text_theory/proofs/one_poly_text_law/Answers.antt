use Rattle.text_theory.proofs.PolynomialTexts.{one_poly}
use Rattle.text_theory.proofs.one_poly_text_law.Goals as goal

pub returns : goal.returns
returns c = one_poly
