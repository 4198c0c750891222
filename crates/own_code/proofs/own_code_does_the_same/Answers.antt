use Rattle.p4_meaning.specs.Statements.{application}
use Rattle.own_code.proofs.Own.{act_ran, tested_ran, all_ran}
use Rattle.own_code.proofs.OwnCalls.{calls_alike, more_alike}
use Rattle.own_code.proofs.own_code_does_the_same.Goals as goal

pub returns-clause-statements : goal.returns-clause-statements
returns-clause-statements c = λ e d same ss a b own alike. all_ran e d same ss a b own alike

pub returns-clause-acts : goal.returns-clause-acts
returns-clause-acts c = λ e d same k a b own alike. act_ran e d same k a b own alike

pub returns-clause-tests : goal.returns-clause-tests
returns-clause-tests c = λ i d same e a b own alike. tested_ran i d same (application e) e a b own.0 own.1 alike

pub returns-clause-calls : goal.returns-clause-calls
returns-clause-calls c = λ actions tables held held' own_actions own_tables same. calls_alike actions own_actions tables held held' own_tables same

pub returns-clause-more_calls : goal.returns-clause-more_calls
returns-clause-more_calls c = λ actions actions' tables tables' held held' own_actions own_tables has same runs. more_alike actions actions' own_actions tables tables' held held' own_tables has same runs
