use Rattle.std.proofs.Common.{sym, subst}
use Rattle.load_maker.specs.Plain.{IsPlain}
use Rattle.load_maker.proofs.PlainValues.{entries_is_plain}
use Rattle.load_maker.proofs.files.entries_text.Goals as goal

pub json_text-requires : goal.json_text-requires
json_text-requires c = subst IsPlain (sym c.in_ok-entries.ensures) entries_is_plain
