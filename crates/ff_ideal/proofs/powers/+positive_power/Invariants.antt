use Rattle.ff_ideal.proofs.powers.+positive_power.Given as goal

abbrev pub decreases-positive_power : goal.decreases-positive_power
decreases-positive_power g l = l.m
