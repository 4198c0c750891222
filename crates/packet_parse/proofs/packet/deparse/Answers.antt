use Rattle.std.proofs.Common.{ℕ, List, ◌++◌, ap, ap₂, ◌∙◌}
use Rattle.bit_values.specs.Bytes.{bits_of}
use Rattle.bit_writer.specs.Bytes.{bytes_of}
use Rattle.p4_tree.specs.View.{program_of}
use Rattle.p4_meaning.specs.Store.{Store}
use Rattle.p4_meaning.specs.Parsing.{deparse_of}
use Rattle.p4_meaning.specs.Parts.{Parts, parts_of, control_in}
use Rattle.packet_parse.specs.Stores.{deparser_scope, store_under}
use Rattle.packet_parse.proofs.packet.deparse.Goals as goal

pub returns : goal.returns
returns c =
    let p = parts_of (program_of c.args.p.now) in
    let s : Store = store_under (deparser_scope (control_in (program_of c.args.p.now) 5)) c.args.s.now in
    c.in_ok-frame.ensures
    ∙ ap₂ (λ (q : Parts) (t : Store). bytes_of (deparse_of q.headers q.emits t ++ bits_of c.in_ok-bytes.bytes.items)) c.in_ok-parts.ensures c.in_ok-store.ensures
    ∙ ap (λ (l : List ℕ). bytes_of (deparse_of p.headers p.emits s ++ bits_of l)) c.in_ok-bytes.ensures
