use Rattle.std.proofs.Common.{sym, ap, ◌∙◌}
use Rattle.std.specs.Option.{option_copied}
use Rattle.lex_text.specs.declared.token.Words.TheVariants.{P4}
use Rattle.lex_words.specs.Seen.{lexemes_of}
use Rattle.lex_words.proofs.Named.{name_ascii}
use Rattle.p4_decls.proofs.Written.{quoted_ascii, none_there}
use Rattle.p4_decls.proofs.read.written.Goals as goal

pub from_ascii-requires : goal.from_ascii-requires
from_ascii-requires c =
    name_ascii P4 (lexemes_of P4 c.args.text.now c.args.list.now) c.args.at c.in-Some-name_at.bytes.now c.requires.fair (sym c.name_at.ensures ∙ ap option_copied c.in-Some-name_at.is)

pub from_ascii-requires-in-Some-token_at : goal.from_ascii-requires-in-Some-token_at
from_ascii-requires-in-Some-token_at c =
    rw c.token_bytes.ensures (quoted_ascii c.args.text.now c.args.list.now c.args.at c.in-Some-token_at.token.now (sym c.token_at.ensures ∙ ap option_copied c.in-Some-token_at.is) (sym c.key_at.ensures.value ∙ c.in-None.is)
    (sym c.name_at.ensures ∙ ap option_copied c.in-None-name_at.is) c.requires.left_out c.requires.fair)

pub unreachable-requires : goal.unreachable-requires
unreachable-requires c = none_there c.args.text.now c.args.list.now c.args.at (sym c.token_at.ensures ∙ ap option_copied c.in-None-token_at.is) c.requires.left_out
