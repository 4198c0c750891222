use Rattle.std.proofs.Common.{Bool, Some, None, Vec, Global, refl, [], ◌∷◌, ◌++◌, ◌∙◌, ap}
use Rattle.p4_packets.specs.Fields.{value_in, header_in, Key}
use Rattle.p4_packets.proofs.FieldsLemmas.{put_all, push_all, headed_with}
use Rattle.p4_packets.proofs.fields.Fields.set_valid.Goals as goal

pub returns-else-not-overwrite : goal.returns-else-not-overwrite
returns-else-not-overwrite c =
    ap (headed_with (value_in c.args.self.now.values.items)) (put_all None Some c.args.self.now.valid.items c.overwrite.new.entries.items c.args.path.now c.args.b c.if-not-overwrite.ensures.put)

pub returns-in_ok-push : goal.returns-in_ok-push
returns-in_ok-push c =
    let kept = c.if-not-overwrite.ensures.none refl in
    ap (λ l. headed_with (value_in c.args.self.now.values.items) (header_in l)) (c.in_ok-push.ensures.items ∙ ap (λ (l : Vec (Key × Bool) Global). l.items ++ (c.in_ok-key.key, c.args.b) ∷ []) kept)
    ∙ ap (headed_with (value_in c.args.self.now.values.items)) (push_all None Some c.args.self.now.valid.items c.overwrite.new.entries.items c.in_ok-key.key c.args.path.now c.args.b c.in_ok-key.ensures c.if-not-overwrite.ensures.put)
