-- Values of the program without where they lie in memory.
use Rattle.std.specs.Prelude.{List, map}
use Rattle.serde_json.specs.View.{view}
use Rattle.entry_parts.specs.Written.{Part, whole, front, masked, past, Act, Entry}
use Rattle.entry_parts.specs.Entries.{Listed}
use Rattle.entry_parts.specs.declared.parts.Part as code_part
use Rattle.entry_parts.specs.declared.parts.Part.TheVariants as part
use Rattle.entry_parts.specs.declared.written.WrittenAct.{WrittenAct}
use Rattle.entry_parts.specs.declared.written.WrittenEntry.{WrittenEntry}
use Rattle.entry_parts.specs.declared.entry.Listed as code_listed

abbrev pub part_view : code_part.Part → Part
part_view (part.Whole v d) = whole v (view d.now)
part_view (part.Front v d n) = front v (view d.now) n
part_view (part.Masked v d m) = masked v (view d.now) (view m.now)
part_view part.Past = past

abbrev pub part_views : List code_part.Part → List Part
part_views ps = map part_view ps

abbrev pub act_view : WrittenAct → Act
act_view a = record { action = a.action.now; args = map view a.args.now }

abbrev pub entry_view : WrittenEntry → Entry
entry_view e = record { act = act_view e.act; key = part_views e.key.items; priority = e.priority }

abbrev pub listed_view : code_listed.Listed → Listed
listed_view a = record { number = a.number; params = a.params.now }
