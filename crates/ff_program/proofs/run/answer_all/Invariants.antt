use Rattle.std.proofs.Common.{List, drop}
use Rattle.ff_script.specs.Scripts.{AreInOrderFrom}
use Rattle.ff_program.specs.Output.{Block, IsAnsweredSoFar, blocks_text}
use Rattle.ff_program.specs.Printing.{Prints}
use Rattle.ff_program.specs.Ready.{IsAfter}
use Rattle.ff_program.proofs.run.answer_all.Given as goal

-- the blocks of the statements so far are printed, and the others stand in order behind them
abbrev pub invariant-loop-s : goal.invariant-loop-s
invariant-loop-s g l = record {
  order : AreInOrderFrom l.s-index (drop l.s-index l.script);
  stage : IsAfter l.s-index l.session.bindings;
  printed : (blocks : List Block) × IsAnsweredSoFar l.script blocks l.session (drop l.s-index l.script)
      × Prints g.T.Sink.taken g.T.Sink.faults g.T.Sink.free l.fn.out l.out (blocks_text blocks);
}
