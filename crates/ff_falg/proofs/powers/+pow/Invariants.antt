use Rattle.ff_falg.proofs.powers.+pow.Given as goal

abbrev pub decreases-pow : goal.decreases-pow
decreases-pow g l = l.e
