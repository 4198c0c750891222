-- A report's number is that of the reports before it, each of which has a lexeme of its own. So the numbers are below the number of lexemes.
use Rattle.std.proofs.Common.{ℕ, ◌+◌, ◌≤◌, List, [], ◌∷◌, ◌++◌, length, length-append, arith}
use Rattle.std.proofs.lemmas.List.{length-map}
use Rattle.lex_text.specs.declared.token.Words.TheVariants.{Indus}
use Rattle.lex_text.proofs.Lying.{few_tokens}
use Rattle.lex_words.specs.Seen.{Lexeme, lexeme_of, key}
use Rattle.lex_words.specs.declared.key.Key.TheVariants as k
use Rattle.indus_tree.specs.Tree.{Stmt, Stmts, Property}
use Rattle.indus_tree.specs.Reports.{ReportsBelow, BlockReportsBelow, HasReportsBelow}
use Rattle.indus_spelling.specs.Properties.{reports_in, block_reports, SpellsStmt, an_assign, a_cell, a_push, an_ifs, a_loop, a_reject, a_report, SpellsIfs, an_if, SpellsElse, no_else, else_block, else_if, SpellsBlock, in_braces, SpellsMany, no_more, one_more, SpellsProperty, a_property}
use Rattle.indus_reader.specs.Faults.{IsProperty}

-- a statement's reports are no more than its lexemes, and, counted from r on, below each bound that leaves room for these
abbrev IsCounted : (r : ℕ) → Stmt → List Lexeme → Type 0
IsCounted r s u = (reports_in s ≤ length u) × ((n : ℕ) → r + length u ≤ n → ReportsBelow n s)

abbrev AreCounted : (r : ℕ) → Stmts → List Lexeme → Type 0
AreCounted r ss u = (block_reports ss ≤ length u) × ((n : ℕ) → r + length u ≤ n → BlockReportsBelow n ss)

mutual
  stmt_counted : {p r : ℕ} {s : Stmt} {u : List Lexeme} → SpellsStmt p r s u → IsCounted r s u
  stmt_counted (an_assign x e) = (omega arith, λ n room. tt)
  stmt_counted (a_cell x i e) = (omega arith, λ n room. tt)
  stmt_counted (a_push x e) = (omega arith, λ n room. tt)
  stmt_counted (an_ifs s) = ifs_counted s
  stmt_counted (a_loop {u = u} {v = v} {w = w} xs ls s) =
      let c = block_counted s in
      let l = length-append u (key k.In ∷ (v ++ key k.Close ∷ w)) in
      let m = length-append v (key k.Close ∷ w) in
      (let a = c.0 in omega (arith, a, l, m), λ n room. c.1 n (omega (arith, room, l, m)))
  stmt_counted a_reject = (omega arith, λ n room. tt)
  stmt_counted (a_report s) = (omega arith, λ n room. omega (arith, room))

  ifs_counted : {p r : ℕ} {s : Stmt} {u : List Lexeme} → SpellsIfs p r s u → IsCounted r s u
  ifs_counted (an_if {u = u} {v = v} {w = w} e a b) =
      let c = block_counted a in
      let d = else_counted b in
      let l = length-append u (key k.Close ∷ (v ++ w)) in
      let m = length-append v w in
      (let x = c.0 in let y = d.0 in omega (arith, x, y, l, m), λ n room. (c.1 n (omega (arith, room, l, m)), d.1 n (let x = c.0 in omega (arith, room, x, l, m))))

  else_counted : {p r : ℕ} {ss : Stmts} {u : List Lexeme} → SpellsElse p r ss u → AreCounted r ss u
  else_counted no_else = (omega arith, λ n room. tt)
  else_counted (else_block s) =
      let c = block_counted s in
      (let x = c.0 in omega (arith, x), λ n room. c.1 n (omega (arith, room)))
  else_counted (else_if s) =
      let c = ifs_counted s in
      (let x = c.0 in omega (arith, x), λ n room. (c.1 n (omega (arith, room)), tt))

  block_counted : {p r : ℕ} {ss : Stmts} {u : List Lexeme} → SpellsBlock p r ss u → AreCounted r ss u
  block_counted (in_braces {u = u} s) =
      let c = many_counted s in
      let l = length-append u (key k.BraceClose ∷ []) in
      (let x = c.0 in omega (arith, x, l), λ n room. c.1 n (omega (arith, room, l)))

  many_counted : {p r : ℕ} {ss : Stmts} {u : List Lexeme} → SpellsMany p r ss u → AreCounted r ss u
  many_counted no_more = (omega arith, λ n room. tt)
  many_counted (one_more {u = u} {v = v} s rest) =
      let c = stmt_counted s in
      let d = many_counted rest in
      let l = length-append u v in
      (let x = c.0 in let y = d.0 in omega (arith, x, y, l), λ n room. (c.1 n (omega (arith, room, l)), d.1 n (let x = c.0 in omega (arith, room, x, l))))

property_counted : {t : Property} {ws : List Lexeme} → SpellsProperty t ws → (n : ℕ) → length ws ≤ n → HasReportsBelow n t
property_counted (a_property {r = r} {s = s} {u = u} {v = v} {w = w} e ds a b c) n room =
    let i = block_counted a in
    let j = block_counted b in
    let l = length-append r (s ++ (u ++ (v ++ w))) in
    let m = length-append s (u ++ (v ++ w)) in
    let o = length-append u (v ++ w) in
    let q = length-append v w in
    record {
      init = i.1 n (omega (arith, room, l, m, o, q));
      tele = j.1 n (let x = i.0 in omega (arith, room, x, l, m, o, q));
      check = (block_counted c).1 n (let x = i.0 in let y = j.0 in omega (arith, room, x, y, l, m, o, q));
    }

-- a text that spells a property has no more lexemes than bytes
pub reports_are_below : (text : List ℕ) (t : Property) (n : ℕ) → length text ≤ n → IsProperty text t → HasReportsBelow n t
reports_are_below text t n short p =
    let few = few_tokens Indus text p.list p.tokens in
    let same = length-map p.list (lexeme_of Indus text) in
    property_counted p.holds.spells n (omega (arith, short, few, same))
