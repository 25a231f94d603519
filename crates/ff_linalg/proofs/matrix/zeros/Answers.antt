use Rattle.std.proofs.Common.{replicate, ◌∙◌, ap}
use Rattle.ff_linalg.proofs.matrix.zeros.Goals as goal
use Rattle.ff_linalg.proofs.Views.{resized_zeros}

pub returns : goal.returns
returns c =
    let product = rw c.in_ok-count.ensures.ok_part at c.checked_mul.ensures in
    resized_zeros c.resize.new.self.items c.new-entries.result.items c.in_ok-count.count _ c.in_ok-resize.ensures.items
    c.new-entries.ensures.items c.new-entries.ensures.len
    ∙ ap (λ n. replicate n 0) product.1
