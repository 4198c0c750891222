-- A program that a file may give can be spelled.
use Rattle.std.proofs.Common.{◌≡◌, ℕ, List, sym, subst, ◌∙◌}
use Rattle.lex_text.specs.declared.token.Words.TheVariants.{P4}
use Rattle.lex_words.specs.Seen.{lexemes_of}
use Rattle.lex_words.proofs.FairLexemes.{tokens_are_lexemes}
use Rattle.p4_tree.specs.Tree.{Program}
use Rattle.p4_decls.specs.Faults.{IsProgram}
use Rattle.p4_printer.specs.CanSpell.{CanSpell}
use Rattle.p4_printer.proofs.StructuredPrograms.{spelled_can_be}
use Rattle.job_course.specs.Course.{and_then}
use Rattle.program_course.specs.Files.{forwarding_program}

text_can : (text : List ℕ) (t : Program) → IsProgram text t → CanSpell t
text_can text t h = spelled_can_be t (record { lexemes = lexemes_of P4 text h.list; fair = tokens_are_lexemes P4 text h.list h.tokens; spells = h.holds.spells })

pub can_be_spelled : (name : List ℕ) (p : Program) → (forwarding_program name).may p → CanSpell p
unfolding and_then
can_be_spelled name p (tree, (whole, (text, short, spells), typed), limits) = subst CanSpell (sym (limits.0 ∙ typed.0)) (text_can text whole spells)
