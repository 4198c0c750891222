-- A name's bytes are ASCII.
use Rattle.std.proofs.Common.{sym}
use Rattle.lex_words.specs.Seen.{lexemes_of}
use Rattle.lex_words.proofs.Named.{name_ascii}
use Rattle.lex_words.proofs.cursor.Cursor.name.Goals as goal

pub from_ascii-requires : goal.from_ascii-requires
from_ascii-requires c = name_ascii c.self.inside.language (lexemes_of c.self.inside.language c.self.inside.text.now c.self.inside.list.now) c.self.inside.at c.in-Some.bytes.now c.self.invariant.fair (sym c.in-Some.ensures)
