use Rattle.std.proofs.Common.{◌≡◌, length, map, sym, ap, ◌∙◌}
use Rattle.std.proofs.lemmas.List.{length-map}
use Rattle.std.proofs.lemmas.Result.{IfOk-weaker}
use Rattle.p4_tree.specs.View.{program_of}
use Rattle.p4_meaning.specs.Parts.{Parts, parts_of}
use Rattle.p4_parts.specs.PartsIn.{action_in, parts_in, table_in}
use Rattle.p4_tables.specs.Programs.{state_before}
use Rattle.p4_tables.specs.StandsTests.{tables_stand}
use Rattle.p4_tables.proofs.Refilled.{before_long}
use Rattle.p4_tables.proofs.Decided.{listed_same, program_decided, program_same, on_true, on_false}
use Rattle.p4_tables.proofs.stands.stands_in.Goals as goal

pub tables_stand-requires : goal.tables_stand-requires
tables_stand-requires c =
    let p = program_of c.args.from.now in
    let q = program_of c.args.to.now in
    let own : parts_in c.in_ok-parts.parts ≡ parts_of p = c.in_ok-parts.ensures ∙ ap (λ x. parts_of (program_of x)) c.program.ensures.same in
    let ours : c.deref-4.result.now ≡ state_before p = c.deref-4.ensures.value ∙ (c.in_ok-own.ensures ∙ ap (λ x. state_before (program_of x)) c.program-3.ensures.same) in
    ap (λ ts. length ts) c.deref.ensures.value ∙ sym (length-map c.in_ok-parts.parts.tables.items table_in) ∙ ap (λ (f : Parts). length f.tables) own ∙ sym (ap length ours ∙ before_long p)

pub returns-clause-yes : goal.returns-clause-yes
returns-clause-yes c =
    let p = program_of c.args.from.now in
    let q = program_of c.args.to.now in
    let own : parts_in c.in_ok-parts.parts ≡ parts_of p = c.in_ok-parts.ensures ∙ ap (λ x. parts_of (program_of x)) c.program.ensures.same in
    let other : parts_in c.in_ok-target.target ≡ parts_of q = c.in_ok-target.ensures ∙ ap (λ x. parts_of (program_of x)) c.program-2.ensures.same in
    let ours : c.deref-4.result.now ≡ state_before p = c.deref-4.ensures.value ∙ (c.in_ok-own.ensures ∙ ap (λ x. state_before (program_of x)) c.program-3.ensures.same) in
    let theirs : c.deref-3.result.now ≡ state_before q = c.deref-3.ensures.value ∙ (c.in_ok-others.ensures ∙ ap (λ x. state_before (program_of x)) c.program-4.ensures.same) in
    let same : tables_stand (map action_in c.as_slice-own_list.result.now) (map action_in c.as_slice-list.result.now) (map table_in c.deref-2.result.now) c.deref-3.result.now (map table_in c.deref.result.now) c.deref-4.result.now
    ≡ tables_stand (parts_in c.in_ok-parts.parts).actions (parts_in c.in_ok-target.target).actions (parts_in c.in_ok-target.target).tables c.deref-3.result.now (parts_in c.in_ok-parts.parts).tables c.deref-4.result.now =
    listed_same _ _ _ _ _ _ _ _ c.deref-3.result.now c.deref-4.result.now c.as_slice-own_list.ensures.value c.as_slice-list.ensures.value c.deref-2.ensures.value c.deref.ensures.value in
    IfOk-weaker c.tables_stand.result _ _ (λ b is. on_true b _ (is ∙ same ∙ program_same p q _ _ _ _ own other theirs ours) (program_decided p q)) c.tables_stand.ensures

pub returns-clause-no : goal.returns-clause-no
returns-clause-no c =
    let p = program_of c.args.from.now in
    let q = program_of c.args.to.now in
    let own : parts_in c.in_ok-parts.parts ≡ parts_of p = c.in_ok-parts.ensures ∙ ap (λ x. parts_of (program_of x)) c.program.ensures.same in
    let other : parts_in c.in_ok-target.target ≡ parts_of q = c.in_ok-target.ensures ∙ ap (λ x. parts_of (program_of x)) c.program-2.ensures.same in
    let ours : c.deref-4.result.now ≡ state_before p = c.deref-4.ensures.value ∙ (c.in_ok-own.ensures ∙ ap (λ x. state_before (program_of x)) c.program-3.ensures.same) in
    let theirs : c.deref-3.result.now ≡ state_before q = c.deref-3.ensures.value ∙ (c.in_ok-others.ensures ∙ ap (λ x. state_before (program_of x)) c.program-4.ensures.same) in
    let same : tables_stand (map action_in c.as_slice-own_list.result.now) (map action_in c.as_slice-list.result.now) (map table_in c.deref-2.result.now) c.deref-3.result.now (map table_in c.deref.result.now) c.deref-4.result.now
    ≡ tables_stand (parts_in c.in_ok-parts.parts).actions (parts_in c.in_ok-target.target).actions (parts_in c.in_ok-target.target).tables c.deref-3.result.now (parts_in c.in_ok-parts.parts).tables c.deref-4.result.now =
    listed_same _ _ _ _ _ _ _ _ c.deref-3.result.now c.deref-4.result.now c.as_slice-own_list.ensures.value c.as_slice-list.ensures.value c.deref-2.ensures.value c.deref.ensures.value in
    IfOk-weaker c.tables_stand.result _ _ (λ b is. on_false b _ (is ∙ same ∙ program_same p q _ _ _ _ own other theirs ours) (program_decided p q)) c.tables_stand.ensures
