-- What the values of the program stand for.
use Rattle.std.specs.Prelude.{ℕ, map}
use Rattle.std.specs.Global.{Vec}
use Rattle.bit_values.specs.Bits.{Word}
use Rattle.p4_meaning.specs.Choice.{Match, exact, lpm, ternary}
use Rattle.table_entries.specs.Entries.{Entry, Act}
use Rattle.table_entries.specs.declared.entry.Match as code_match
use Rattle.table_entries.specs.declared.entry.Match.TheVariants as match
use Rattle.table_entries.specs.declared.entry.Entry as code_entry
use Rattle.table_entries.specs.declared.entry.Act as code_act
use Rattle.table_entries.specs.declared.entry.Chosen as code_chosen

-- what an entry asks of a key
abbrev pub match_of : code_match.Match → Match
match_of (match.Exact v) = exact v
match_of (match.Lpm v n) = lpm v n
match_of (match.Ternary v m) = ternary v m

-- an entry
abbrev pub entry_of : code_entry.Entry → Entry
entry_of e = record { keys = map match_of e.keys.items; action = e.action; args = e.args.items; priority = e.priority }

-- an action with arguments, and one that is answered
abbrev pub act_of : code_act.Act → Act
act_of a = record { action = a.action; args = a.args.items }

-- a default that is given
abbrev pub given_act : ℕ × Vec Word → Act
given_act d = record { action = d.0; args = d.1.items }

abbrev pub chosen_act : code_chosen.Chosen → Act
chosen_act c = record { action = c.action; args = c.args.now }
