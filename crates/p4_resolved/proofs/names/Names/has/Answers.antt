use Rattle.std.proofs.Common.{Bor, Option, Some, None, is_some, ◌≡◌, refl, ap, ◌∙◌}
use Rattle.p4_resolved.specs.Lent.{lent}
use Rattle.p4_resolved.proofs.Rows.{among}
use Rattle.p4_resolved.proofs.names.Names.has.Goals as goal

some_lent : {T : Type 0} (o : Option (Bor T)) → is_some o ≡ is_some (lent o)
some_lent None = refl
some_lent (Some x) = refl

pub returns : goal.returns
returns c = c.is_some.ensures ∙ some_lent c.find.result ∙ ap is_some c.find.ensures ∙ among c.args.self.now.rows.rows.items c.args.name.now
