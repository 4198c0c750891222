use Rattle.std.proofs.Common.{map, ap, ◌∙◌, filter}
use Rattle.p4_meaning.specs.Pass.{is_declared_header}
use Rattle.p4_parts.specs.Headers as parts
use Rattle.p4_parts.specs.PartsIn.{parts_in}
use Rattle.p4_packets.specs.Fields.{at_key}
use Rattle.p4_packets.proofs.FieldsLemmas.{kept_all}
use Rattle.p4_packets.proofs.fields.Fields.keep_declared.Goals as goal

pub returns : goal.returns
returns c =
    kept_all (parts_in c.args.p.now) c.args.self.now.values.items c.keep_paths.new.entries.items c.args.self.now.valid.items c.keep_headers.new.entries.items c.keep_paths.ensures
    (c.keep_headers.ensures ∙ ap (λ l. filter (at_key (is_declared_header (map parts.header_in l))) c.args.self.now.valid.items) c.deref.ensures.value)
