-- The theorems of `OneSplit`.
use Rattle.split_theory.proofs.OneSplit.{one_basis, one_degree}
use Rattle.split_theory.proofs.one_split_law.Goals as goal

pub returns-clause-functions : goal.returns-clause-functions
returns-clause-functions g =
    λ k c fin inf u v m l bs cs curve form u_in u_monic v_in v_monic popov popov' spanned spanned' rows rows'.
    one_basis k c curve fin inf form u v u_in u_monic v_in v_monic m l popov popov' spanned spanned' bs cs rows rows'

pub returns-clause-degrees : goal.returns-clause-degrees
returns-clause-degrees g =
    λ k c fin inf u v m l curve form u_in u_monic v_in v_monic popov popov' spanned spanned'.
    one_degree k c curve fin inf form u v u_in u_monic v_in v_monic m l popov popov' spanned spanned'
