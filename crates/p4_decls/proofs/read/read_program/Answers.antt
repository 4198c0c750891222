-- What is read of the text's tokens, said of the text (`Texts`); one answer leaves no other (`OneAnswer`).
use Rattle.std.proofs.Common.{sym, subst, ◌∙◌}
use Rattle.lex_text.specs.Tokens.{TokensOf}
use Rattle.lex_text.specs.declared.token.Words.TheVariants.{P4}
use Rattle.lex_words.specs.Seen.{lexemes_of}
use Rattle.lex_words.specs.Written.{AreLexemes}
use Rattle.lex_words.proofs.FairLexemes.{tokens_are_lexemes}
use Rattle.p4_tree.specs.View.{program_of}
use Rattle.p4_decls.specs.declared.fault.ProgramFault.TheVariants.{TooDeep}
use Rattle.p4_decls.specs.Faults.{IsRefused}
use Rattle.p4_decls.proofs.OneAnswer.{one_program, no_program}
use Rattle.p4_decls.proofs.Texts as text
use Rattle.p4_decls.proofs.read.read_program.Goals as goal

pub read_tokens-requires-clause-fair : goal.read_tokens-requires-clause-fair
read_tokens-requires-clause-fair c =
    subst (λ l. AreLexemes P4 (lexemes_of P4 c.args.text.now l)) (sym c.deref.ensures.value) (tokens_are_lexemes P4 c.args.text.now c.in-Ok.list.items c.in-Ok.ensures.found)

pub returns-in-Ok-read_tokens-clause-found : goal.returns-in-Ok-read_tokens-clause-found
returns-in-Ok-read_tokens-clause-found c =
    text.is_program c.args.text.now c.deref.result.now (subst (λ l. TokensOf P4 c.args.text.now l) (sym c.deref.ensures.value) c.in-Ok.ensures.found) (program_of c.in-Ok-read_tokens.found) c.in-Ok-read_tokens.ensures

pub returns-in-Ok-read_tokens-clause-only : goal.returns-in-Ok-read_tokens-clause-only
returns-in-Ok-read_tokens-clause-only c =
    λ t x. one_program c.args.text.now (program_of c.in-Ok-read_tokens.found) t (text.is_program c.args.text.now c.deref.result.now (subst (λ l. TokensOf P4 c.args.text.now l) (sym c.deref.ensures.value) c.in-Ok.ensures.found) (program_of c.in-Ok-read_tokens.found) c.in-Ok-read_tokens.ensures) x

pub returns-in-Err-High-clause-only : goal.returns-in-Err-High-clause-only
returns-in-Err-High-clause-only c =
    λ t x. no_program c.args.text.now (TooDeep c.in-Err-High.at) (text.is_high c.args.text.now c.deref.result.now (subst (λ l. TokensOf P4 c.args.text.now l) (sym c.deref.ensures.value) c.in-Ok.ensures.found) c.in-Err-High.at (rw c.in-Err-High.field-0-is at c.in-Err-High.ensures)) t x

pub returns-in-Err-High-clause-cause : goal.returns-in-Err-High-clause-cause
returns-in-Err-High-clause-cause c =
    text.is_high c.args.text.now c.deref.result.now (subst (λ l. TokensOf P4 c.args.text.now l) (sym c.deref.ensures.value) c.in-Ok.ensures.found) c.in-Err-High.at (rw c.in-Err-High.field-0-is at c.in-Err-High.ensures)

pub returns-in-Err-Deep-clause-only : goal.returns-in-Err-Deep-clause-only
returns-in-Err-Deep-clause-only c =
    λ t x. no_program c.args.text.now (TooDeep c.in-Err-Deep.at) (text.is_deep c.args.text.now c.deref.result.now (subst (λ l. TokensOf P4 c.args.text.now l) (sym c.deref.ensures.value) c.in-Ok.ensures.found) c.in-Err-Deep.at (rw c.in-Err-Deep.field-0-is at c.in-Err-Deep.ensures)) t x

pub returns-in-Err-Deep-clause-cause : goal.returns-in-Err-Deep-clause-cause
returns-in-Err-Deep-clause-cause c =
    text.is_deep c.args.text.now c.deref.result.now (subst (λ l. TokensOf P4 c.args.text.now l) (sym c.deref.ensures.value) c.in-Ok.ensures.found) c.in-Err-Deep.at (rw c.in-Err-Deep.field-0-is at c.in-Err-Deep.ensures)

pub refusal-requires-clause-fair : goal.refusal-requires-clause-fair
refusal-requires-clause-fair c =
    subst (λ l. AreLexemes P4 (lexemes_of P4 c.args.text.now l)) (sym c.deref-in-Err-Wrong.ensures.value) (tokens_are_lexemes P4 c.args.text.now c.in-Ok.list.items c.in-Ok.ensures.found)

pub returns-in-Err-Wrong-clause-cause : goal.returns-in-Err-Wrong-clause-cause
returns-in-Err-Wrong-clause-cause c =
    text.is_wrong c.args.text.now c.deref.result.now (subst (λ l. TokensOf P4 c.args.text.now l) (sym c.deref.ensures.value) c.in-Ok.ensures.found) c.in-Err-Wrong.at (rw c.in-Err-Wrong.field-0-is at c.in-Err-Wrong.ensures) c.refusal.result
    (subst (λ l. IsRefused (lexemes_of P4 c.args.text.now l) c.in-Err-Wrong.at c.refusal.result) (c.deref-in-Err-Wrong.ensures.value ∙ sym c.deref.ensures.value) c.refusal.ensures)

pub returns-in-Err-Wrong-clause-only : goal.returns-in-Err-Wrong-clause-only
returns-in-Err-Wrong-clause-only c =
    λ t x. no_program c.args.text.now c.refusal.result (text.is_wrong c.args.text.now c.deref.result.now (subst (λ l. TokensOf P4 c.args.text.now l) (sym c.deref.ensures.value) c.in-Ok.ensures.found) c.in-Err-Wrong.at
    (rw c.in-Err-Wrong.field-0-is at c.in-Err-Wrong.ensures) c.refusal.result
    (subst (λ l. IsRefused (lexemes_of P4 c.args.text.now l) c.in-Err-Wrong.at c.refusal.result) (c.deref-in-Err-Wrong.ensures.value ∙ sym c.deref.ensures.value) c.refusal.ensures)) t x
