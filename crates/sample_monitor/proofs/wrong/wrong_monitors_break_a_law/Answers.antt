use Rattle.sample_monitor.proofs.Refused.{header_refused, first_refused, wide_refused, flag_refused, mark_refused, values_refused, reports_refused, set_refused, load_refused, cells_refused, fill_refused}
use Rattle.sample_monitor.proofs.wrong.wrong_monitors_break_a_law.Goals as goal

pub returns-clause-header : goal.returns-clause-header
returns-clause-header c = λ laws. header_refused laws

pub returns-clause-first : goal.returns-clause-first
returns-clause-first c = λ laws. first_refused laws

pub returns-clause-wide : goal.returns-clause-wide
returns-clause-wide c = λ laws. wide_refused laws

pub returns-clause-flag : goal.returns-clause-flag
returns-clause-flag c = λ laws. flag_refused laws

pub returns-clause-mark : goal.returns-clause-mark
returns-clause-mark c = λ laws. mark_refused laws

pub returns-clause-values : goal.returns-clause-values
returns-clause-values c = λ laws. values_refused laws

pub returns-clause-reports : goal.returns-clause-reports
returns-clause-reports c = λ laws. reports_refused laws

pub returns-clause-set : goal.returns-clause-set
returns-clause-set c = λ laws. set_refused laws

pub returns-clause-load : goal.returns-clause-load
returns-clause-load c = λ laws. load_refused laws

pub returns-clause-cells : goal.returns-clause-cells
returns-clause-cells c = λ laws. cells_refused laws

pub returns-clause-fill : goal.returns-clause-fill
returns-clause-fill c = λ laws. fill_refused laws
