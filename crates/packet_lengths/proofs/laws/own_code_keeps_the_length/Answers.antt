use Rattle.packet_lengths.proofs.Near.{near_value, own_keeps, own_action_keeps}
use Rattle.packet_lengths.proofs.NearStates.{near_state}
use Rattle.packet_lengths.proofs.laws.own_code_keeps_the_length.Goals as goal

pub returns-clause-statements : goal.returns-clause-statements
returns-clause-statements c = λ ss own. own_keeps ss own

pub returns-clause-actions : goal.returns-clause-actions
returns-clause-actions c = λ a own. own_action_keeps a own

pub returns-clause-values : goal.returns-clause-values
returns-clause-values c = λ x y e w own near. near_value x y e w own near

pub returns-clause-states : goal.returns-clause-states
returns-clause-states c = λ headers linked extract s x y own near rest. near_state headers linked extract s x y own near rest
