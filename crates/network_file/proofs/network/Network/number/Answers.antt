use Rattle.std.proofs.Common.{Some, None, ap, ◌∙◌}
use Rattle.std.specs.List.{list_any}
use Rattle.std.specs.Str.{bytes_eq}
use Rattle.json_parts.proofs.NameLemmas.{any_owned, position_owned}
use Rattle.network_file.specs.Network.{Network, number_of}
use Rattle.network_file.proofs.NameSteps.{none_is}
use Rattle.network_file.proofs.Lent.{lent_says}
use Rattle.network_file.proofs.network.Network.number.Goals as goal

pub returns-in-Some-clause-number : goal.returns-in-Some-clause-number
returns-in-Some-clause-number c = c.in-Some.ensures.index ∙ position_owned c.args.name.now c.deref.result.now.names.keys ∙ ap (λ (n : Network). number_of n.names c.args.name.now) (lent_says _ _ _ c.deref.ensures c.self.view_is)

pub returns-in-Some-clause-none : goal.returns-in-Some-clause-none
returns-in-Some-clause-none c = none_is c.args.name.now (Some c.in-Some.number) c.args.self.now.names (c.in-Some.ensures.found ∙ any_owned c.args.name.now c.deref.result.now.names.keys ∙ ap (λ (n : Network). list_any (bytes_eq c.args.name.now) n.names) (lent_says _ _ _ c.deref.ensures c.self.view_is))

pub returns-in-None-clause-number : goal.returns-in-None-clause-number
returns-in-None-clause-number c = c.in-None.ensures.index ∙ position_owned c.args.name.now c.deref.result.now.names.keys ∙ ap (λ (n : Network). number_of n.names c.args.name.now) (lent_says _ _ _ c.deref.ensures c.self.view_is)

pub returns-in-None-clause-none : goal.returns-in-None-clause-none
returns-in-None-clause-none c = none_is c.args.name.now None c.args.self.now.names (c.in-None.ensures.found ∙ any_owned c.args.name.now c.deref.result.now.names.keys ∙ ap (λ (n : Network). list_any (bytes_eq c.args.name.now) n.names) (lent_says _ _ _ c.deref.ensures c.self.view_is))
