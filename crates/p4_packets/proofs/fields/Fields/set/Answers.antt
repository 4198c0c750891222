use Rattle.std.proofs.Common.{Vec, Global, refl, [], ◌∷◌, ◌++◌, ◌∙◌, ap}
use Rattle.bit_values.specs.Bits.{Word, word}
use Rattle.p4_packets.specs.Fields.{value_in, Key}
use Rattle.p4_packets.proofs.FieldsLemmas.{put_all, push_all, store_with}
use Rattle.p4_packets.proofs.fields.Fields.set.Goals as goal

pub returns-else-not-overwrite : goal.returns-else-not-overwrite
returns-else-not-overwrite c =
    ap (store_with c.args.self.now.valid.items) (put_all (word 1 0) (λ w. w) c.args.self.now.values.items c.overwrite.new.entries.items c.args.path.now c.args.v c.if-not-overwrite.ensures.put)

pub returns-in_ok-push : goal.returns-in_ok-push
returns-in_ok-push c =
    let kept = c.if-not-overwrite.ensures.none refl in
    ap (λ l. store_with c.args.self.now.valid.items (value_in l)) (c.in_ok-push.ensures.items ∙ ap (λ (l : Vec (Key × Word) Global). l.items ++ (c.in_ok-key.key, c.args.v) ∷ []) kept)
    ∙ ap (store_with c.args.self.now.valid.items) (push_all (word 1 0) (λ w. w) c.args.self.now.values.items c.overwrite.new.entries.items c.in_ok-key.key c.args.path.now c.args.v c.in_ok-key.ensures c.if-not-overwrite.ensures.put)
