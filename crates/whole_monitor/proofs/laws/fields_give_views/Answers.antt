use Rattle.whole_monitor.proofs.Views.{fields_give_views}
use Rattle.whole_monitor.proofs.laws.fields_give_views.Goals as goal

pub returns : goal.returns
returns c = fields_give_views
