use Rattle.std.proofs.Common.{map, sym, ap, ap₂, ◌∙◌}
use Rattle.p4_tree.specs.View.{program_of}
use Rattle.p4_meaning.specs.Store.{Store}
use Rattle.p4_meaning.specs.Scope.{Scope}
use Rattle.p4_meaning.specs.Parsing.{ParserEnd}
use Rattle.p4_meaning.specs.Pass.{store_behind}
use Rattle.p4_parts.specs.PartsIn.{parts_in}
use Rattle.p4_packets.specs.Fields.{store_of}
use Rattle.p4_resolved.specs.Scopes.{at_part, scope_of}
use Rattle.p4_resolved.specs.declared.layer.Layer.{Layer}
use Rattle.packet_parse.specs.Stores.{parser_scope, shown_standard, shown_valid, shown_value}
use Rattle.packet_parse.proofs.Ended.{ended}
use Rattle.packet_parse.proofs.packet.run_on.Goals as goal

pub returns-clause-rest : goal.returns-clause-rest
returns-clause-rest c =
    let scope = c.within-sc.ensures ∙ ap₂ (λ (t l : Layer). at_part t l) (c.deref-3.ensures ∙ sym c.deref.ensures) c.deref-2.ensures ∙ c.in_ok-layer.ensures ∙ ap (λ d. parser_scope d) c.parser_in.ensures in
    let end = ended (program_of c.args.p.now) c.args.s.now c.args.frame.now (parts_in c.in_ok-parts.parts) (store_of c.in_ok-store.store) (scope_of c.within-sc.result) c.in_ok-parts.ensures scope c.in_ok-store.ensures in
    c.in_ok-at.ensures.rest ∙ ap (λ (e : ParserEnd). e.reading.rest) end

pub returns-clause-valid : goal.returns-clause-valid
returns-clause-valid c =
    let scope = c.within-sc.ensures ∙ ap₂ (λ (t l : Layer). at_part t l) (c.deref-3.ensures ∙ sym c.deref.ensures) c.deref-2.ensures ∙ c.in_ok-layer.ensures ∙ ap (λ d. parser_scope d) c.parser_in.ensures in
    let end = ended (program_of c.args.p.now) c.args.s.now c.args.frame.now (parts_in c.in_ok-parts.parts) (store_of c.in_ok-store.store) (scope_of c.within-sc.result) c.in_ok-parts.ensures scope c.in_ok-store.ensures in
    c.in_ok-show.ensures.valid ∙ ap₂ (λ (d : Scope) (t : Store). map (shown_valid d t) c.args.s.now.valid.items) scope (c.in_ok-at.ensures.store ∙ ap store_behind end)

pub returns-clause-values : goal.returns-clause-values
returns-clause-values c =
    let scope = c.within-sc.ensures ∙ ap₂ (λ (t l : Layer). at_part t l) (c.deref-3.ensures ∙ sym c.deref.ensures) c.deref-2.ensures ∙ c.in_ok-layer.ensures ∙ ap (λ d. parser_scope d) c.parser_in.ensures in
    let end = ended (program_of c.args.p.now) c.args.s.now c.args.frame.now (parts_in c.in_ok-parts.parts) (store_of c.in_ok-store.store) (scope_of c.within-sc.result) c.in_ok-parts.ensures scope c.in_ok-store.ensures in
    c.in_ok-show.ensures.values ∙ ap₂ (λ (d : Scope) (t : Store). map (shown_value d t) c.args.s.now.values.items) scope (c.in_ok-at.ensures.store ∙ ap store_behind end)

pub returns-clause-standard : goal.returns-clause-standard
returns-clause-standard c =
    let scope = c.within-sc.ensures ∙ ap₂ (λ (t l : Layer). at_part t l) (c.deref-3.ensures ∙ sym c.deref.ensures) c.deref-2.ensures ∙ c.in_ok-layer.ensures ∙ ap (λ d. parser_scope d) c.parser_in.ensures in
    let end = ended (program_of c.args.p.now) c.args.s.now c.args.frame.now (parts_in c.in_ok-parts.parts) (store_of c.in_ok-store.store) (scope_of c.within-sc.result) c.in_ok-parts.ensures scope c.in_ok-store.ensures in
    c.in_ok-show.ensures.standard ∙ ap shown_standard (c.in_ok-at.ensures.store ∙ ap store_behind end)
