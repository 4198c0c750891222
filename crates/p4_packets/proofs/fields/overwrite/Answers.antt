use Rattle.std.proofs.Common.{List, Vec, Global, true, sym, ap, ◌∙◌, length, ◌<◌, arith, []}
use Rattle.std.specs.Prelude.{slice_set}
use Rattle.lex_text.specs.Names.{same_path}
use Rattle.p4_packets.specs.Fields.{put_in, Key}
use Rattle.p4_packets.proofs.FieldsLemmas.{put_here, behind}
use Rattle.p4_packets.proofs.fields.overwrite.Goals as goal

pub returns-then-same_path-clause-put : goal.returns-then-same_path-clause-put
returns-then-same_path-clause-put g c =
    let es : List (Key × g.row.X.Denot) = c.loop-i.entries.items in
    let here = ap (λ (e : Key × g.row.X.Denot). same_path e.0.items c.args.path.now) (sym c.index.ensures) ∙ ap (λ l. same_path l c.args.path.now) (sym c.deref.ensures.value) ∙ sym c.same_path.ensures ∙ c.if-same_path.true in
    let within : c.loop-i.i < length es = omega arith in
    ap (λ (l : Vec (Key × g.row.X.Denot) Global). put_in l.items c.args.path.now c.args.v) (sym c.loop-i.invariant.same)
    ∙ sym c.loop-i.invariant.rest
    ∙ put_here es c.loop-i.i c.args.path.now c.args.v c.index.result.now c.index_mut.result.now within here
    ∙ ap (λ (e : Key × g.row.X.Denot). behind [] (true, slice_set es c.loop-i.i (e.0, c.args.v))) (sym c.index_mut.ensures.value)
