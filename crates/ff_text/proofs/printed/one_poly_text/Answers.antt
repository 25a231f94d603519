use Rattle.ff_text.proofs.PrintedTexts.{one_poly, same_poly}
use Rattle.ff_text.proofs.printed.one_poly_text.Goals as goal

pub returns : goal.returns
returns c = record { front = one_poly; whole = same_poly }
