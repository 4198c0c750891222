-- Programs: what is read is spelled so, and what was read up to a fault begins it.
use Rattle.std.proofs.Common.{◌≡◌, ℕ, zero, suc, ◌+◌, ◌-◌, ◌≤◌, true, List, [], ◌∷◌, ◌++◌, length, Option, Some, None, Ok, refl, sym, subst, arith, append_assoc}
use Rattle.std.proofs.lemmas.List.{append-nil}
use Rattle.std.specs.Prelude.{slice_get}
use Rattle.lex_words.specs.declared.key.Key.TheVariants as k
use Rattle.lex_words.specs.Seen.{Lexeme, name, number, key, quoted, include, strange, at_key, at_include}
use Rattle.lex_words.specs.Reading.{Read, ◌>>=◌}
use Rattle.lex_words.proofs.Standing.{Stands-length}
use Rattle.lex_words.proofs.Spelled.{Reads, Reads-bind, Reads-map, Reads-lexeme, Reads-ok, Reads-spent, Reads-cond, Reads-expect, Reads-named, Reads-this_name}
use Rattle.p4_tree.specs.Tree.{Top, constant, typedef, header_type, struct_type, register, parser, control, Program}
use Rattle.p4_tree.specs.Height.{expr_height, parser_height, control_height, top_height, height}
use Rattle.p4_tree.specs.declared.statement.PTy.{PTy}
use Rattle.p4_tree.specs.declared.statement.PTy.TheVariants as type
use Rattle.p4_spelling.specs.Words.{main_name}
use Rattle.p4_spelling.specs.Lists.{SpellsList, last, SpellsEach, no_more}
use Rattle.p4_spelling.specs.Types.{SpellsRegister, SpellsField, a_field, a_scalar, a_bool}
use Rattle.p4_spelling.specs.Statements.{SpellsConst}
use Rattle.p4_spelling.specs.Parsers.{SpellsParser}
use Rattle.p4_spelling.specs.Controls.{SpellsControl}
use Rattle.p4_spelling.specs.Programs.{SpellsTop, a_const, a_typedef, a_register, a_parser, a_control, a_header, a_struct, SpellsIncludes, no_include, an_include, SpellsPart, a_part, SpellsProgram, a_program}
use Rattle.p4_expressions.proofs.SoundSteps.{some_name, Any}
use Rattle.p4_reader.proofs.SoundDeclared.{Reads-const}
use Rattle.p4_decls.specs.Repeating.{each_at}
use Rattle.p4_decls.specs.Declaring.{field_at}
use Rattle.p4_decls.specs.Parsing.{closes_brace}
use Rattle.p4_decls.specs.Programs.{ends_tops, typedef_at, header_at, struct_at, top_at, includes_at, part_at, parts_at, main_at, whole_at}
use Rattle.p4_decls.proofs.Repeats.{Each, Least, Reads-each, Reads-list}
use Rattle.p4_decls.proofs.SoundDeclaring.{Reads-register, Reads-field}
use Rattle.p4_decls.proofs.SoundParsers.{each_low, Reads-parser}
use Rattle.p4_decls.proofs.SoundControls.{Reads-control}

-- the names of the parts in their brackets
pub data SpellsParts : (p : ℕ) → List (List ℕ) → List Lexeme → Type 0 where
  the_parts : {p : ℕ} {xs : List (List ℕ)} {v : List Lexeme} → SpellsList SpellsPart (p + 1 + 1) xs v → SpellsParts p xs (key k.V1Switch ∷ key k.Open ∷ (v ++ key k.Close ∷ []))

-- the same, and `main`
pub data SpellsMain : (p : ℕ) → List (List ℕ) → List Lexeme → Type 0 where
  the_main : {p : ℕ} {xs : List (List ℕ)} {v : List Lexeme} → SpellsList SpellsPart (p + 1 + 1) xs v → SpellsMain p xs (key k.V1Switch ∷ key k.Open ∷ (v ++ key k.Close ∷ name main_name ∷ key k.Semicolon ∷ []))

main_of : {p : ℕ} {xs : List (List ℕ)} {w : List Lexeme} → SpellsParts p xs w → SpellsMain p xs (w ++ name main_name ∷ key k.Semicolon ∷ [])
main_of {p = p} {xs = xs} (the_parts {v = v} s) =
    subst (λ z. SpellsMain p xs (key k.V1Switch ∷ key k.Open ∷ z)) (sym (append_assoc v (key k.Close ∷ []) (name main_name ∷ key k.Semicolon ∷ []))) (the_main s)

least_part : (p : ℕ) → Least SpellsPart Any p
least_part p = record { item = some_name; lexemes = name some_name ∷ key k.Open ∷ key k.Close ∷ []; spells = a_part some_name; bound = tt }

typedef_of : {p : ℕ} {a : PTy × List ℕ} {w : List Lexeme} → SpellsField (p + 1) a w → SpellsTop p (typedef p a.0 a.1) (key k.Typedef ∷ w)
typedef_of (a_field x s) = a_typedef x s

pub include_lexeme : (o : Option Lexeme) → at_include o ≡ true → (s : List ℕ) × (o ≡ Some (include s))
include_lexeme None e = absurd cc
include_lexeme (Some (name s)) e = absurd cc
include_lexeme (Some (number v)) e = absurd cc
include_lexeme (Some (key x)) e = absurd cc
include_lexeme (Some (quoted s)) e = absurd cc
include_lexeme (Some (include s)) e = (s, refl)
include_lexeme (Some (strange s)) e = absurd cc

abbrev made : List Top → List (List ℕ) → Program
made ts xs = record { at = 0; tops = ts; main = xs }

-- i: where the declarations begin; j: where `V1Switch` stands
program_of : (i j : ℕ) (ts : List Top) (xs : List (List ℕ)) (s u w : List Lexeme) → i ≡ 0 + length s → j ≡ i + length u → SpellsIncludes s → SpellsEach SpellsTop i ts u → SpellsMain j xs w → SpellsProgram (made ts xs) (s ++ (u ++ w))
program_of i j ts xs s u w at on f t (the_main {v = v} r) =
    let first : i ≡ length s = omega (arith, at) in
    let second : j ≡ length s + length u = omega (arith, at, on) in
    a_program f (subst (λ q. SpellsEach SpellsTop q ts u) first t) (subst (λ q. SpellsList SpellsPart (q + 1 + 1) xs v) second r)

-- the shortest `main`
abbrev pub main_lexemes : List Lexeme
main_lexemes = key k.V1Switch ∷ key k.Open ∷ name some_name ∷ key k.Open ∷ key k.Close ∷ key k.Close ∷ name main_name ∷ key k.Semicolon ∷ []

least_main : (p : ℕ) → SpellsMain p (some_name ∷ []) main_lexemes
least_main p = the_main (last (a_part some_name))

-- the shortest program
abbrev pub least_tree : Program
least_tree = made [] (some_name ∷ [])

pub least_program : SpellsProgram least_tree main_lexemes
least_program = a_program no_include no_more (last (a_part some_name))

-- six: what is inside declarations is never too high. b: how many brackets may be opened, but for two.
module _ (ws : List Lexeme) (n b h : ℕ) (six : 6 ≤ h) where
  abbrev c : ℕ
  c = suc b

  abbrev TopLow : Top → Type 0
  TopLow t = top_height t ≤ h

  Reads-typedef : (p : ℕ) → Reads ws (SpellsTop p) TopLow (suc c) (suc c) p (typedef_at ws n (suc c) h p)
  unfolding typedef_at
  Reads-typedef p =
      let a = some_name in
      let low : 1 ≤ h = omega (arith, six) in
      Reads-expect ws _ _ (suc c) (suc c) (suc c) p k.Typedef _ (typedef p type.Bool a) (key k.Bool ∷ name a ∷ key k.Semicolon ∷ []) refl (a_typedef a (a_scalar a_bool)) low
      (Reads-bind ws (SpellsField (p + 1)) _ Any _ (suc c) (suc c) (suc c) (p + 1) _ _ (Reads-field ws n (suc c) (p + 1))
      (λ d u s. (typedef p d.0 d.1, [], rw (append-nil u) (typedef_of s), λ _. low))
      (λ d u st s _. Reads-ok ws _ _ (suc c) d.1 (typedef p d.0.0 d.0.1) (rw (append-nil u) (typedef_of s)) low))

  Reads-fields : (p : ℕ) → Reads ws (SpellsEach SpellsField p) (Each Any) (suc c) (suc c) p (each_at ws closes_brace (field_at ws n) n p)
  Reads-fields p = Reads-each ws SpellsField Any (field_at ws n) (suc c) (Reads-field ws n (suc c)) closes_brace n p

  Reads-header : (p : ℕ) → Reads ws (SpellsTop p) TopLow (suc c) (suc c) p (header_at ws n (suc c) h p)
  unfolding header_at
  Reads-header p =
      let a = some_name in
      let low : 1 ≤ h = omega (arith, six) in
      let none = key k.BraceOpen ∷ key k.BraceClose ∷ [] in
      Reads-expect ws _ _ (suc c) (suc c) (suc c) p k.Header _ (header_type p a []) (name a ∷ none) refl (a_header a no_more) low
      (Reads-named ws n _ _ (suc c) (suc c) (p + 1) _ (λ x. (header_type p x [], none, a_header x no_more, low))
      (λ x _. Reads-expect ws _ _ (suc c) (suc c) (suc c) (p + 1 + 1) k.BraceOpen _ (header_type p x []) (key k.BraceClose ∷ []) refl (a_header x no_more) low
      (Reads-bind ws (SpellsEach SpellsField (p + 1 + 1 + 1)) _ (Each Any) _ (suc c) (suc c) (suc c) (p + 1 + 1 + 1) _ _ (Reads-fields (p + 1 + 1 + 1))
      (λ fs u s. (header_type p x fs, key k.BraceClose ∷ [], a_header x s, λ _. low))
      (λ fs u st s _. Reads-expect ws _ _ (suc c) (suc c) (suc c) fs.1 k.BraceClose _ (header_type p x fs.0) [] refl (a_header x s) low
      (Reads-ok ws _ _ (suc c) (fs.1 + 1) (header_type p x fs.0) (a_header x s) low)))))

  Reads-struct : (p : ℕ) → Reads ws (SpellsTop p) TopLow (suc c) (suc c) p (struct_at ws n (suc c) h p)
  unfolding struct_at
  Reads-struct p =
      let a = some_name in
      let low : 1 ≤ h = omega (arith, six) in
      let none = key k.BraceOpen ∷ key k.BraceClose ∷ [] in
      Reads-expect ws _ _ (suc c) (suc c) (suc c) p k.Struct _ (struct_type p a []) (name a ∷ none) refl (a_struct a no_more) low
      (Reads-named ws n _ _ (suc c) (suc c) (p + 1) _ (λ x. (struct_type p x [], none, a_struct x no_more, low))
      (λ x _. Reads-expect ws _ _ (suc c) (suc c) (suc c) (p + 1 + 1) k.BraceOpen _ (struct_type p x []) (key k.BraceClose ∷ []) refl (a_struct x no_more) low
      (Reads-bind ws (SpellsEach SpellsField (p + 1 + 1 + 1)) _ (Each Any) _ (suc c) (suc c) (suc c) (p + 1 + 1 + 1) _ _ (Reads-fields (p + 1 + 1 + 1))
      (λ fs u s. (struct_type p x fs, key k.BraceClose ∷ [], a_struct x s, λ _. low))
      (λ fs u st s _. Reads-expect ws _ _ (suc c) (suc c) (suc c) fs.1 k.BraceClose _ (struct_type p x fs.0) [] refl (a_struct x s) low
      (Reads-ok ws _ _ (suc c) (fs.1 + 1) (struct_type p x fs.0) (a_struct x s) low)))))

  -- f: the declaration of what is read
  Reads-one : {A : Type 0} (p : ℕ) (S : A → List Lexeme → Type 0) (H : A → Type 0) (f : A → Top) (r : Read A) → Reads ws S H (suc c) (suc c) p r → ((a : A) (u : List Lexeme) → S a u → SpellsTop p (f a) u) → ((a : A) → H a → TopLow (f a))
      → Reads ws (SpellsTop p) TopLow (suc c) (suc c) p (r >>= λ d. Ok (f d.0, d.1))
  Reads-one p S H f r sound spells low =
      Reads-bind ws S _ H _ (suc c) (suc c) (suc c) p r _ sound (λ a u s. (f a, [], rw (append-nil u) (spells a u s), λ q. low a q))
      (λ d u st s q. Reads-ok ws _ _ (suc c) d.1 (f d.0) (rw (append-nil u) (spells d.0 u s)) (low d.0 q))

  Reads-top : (p : ℕ) → Reads ws (SpellsTop p) TopLow (suc c) (suc c) p (top_at ws n (suc c) h p)
  unfolding top_at
  Reads-top p =
      Reads-cond ws _ _ (suc c) (suc c) p (at_key k.Const (slice_get ws p)) _ _
      (λ _. Reads-one p (λ v u. SpellsConst p v.ty v.name v.value u) (λ v. expr_height v.value + 1 ≤ h) (λ v. constant p v.ty v.name v.value) _ (Reads-const ws n h (suc c) p (omega (arith, six))) (λ a u s. a_const s) (λ a q. q))
      (λ _. Reads-cond ws _ _ (suc c) (suc c) p (at_key k.Typedef (slice_get ws p)) _ _ (λ _. Reads-typedef p)
      (λ _. Reads-cond ws _ _ (suc c) (suc c) p (at_key k.Register (slice_get ws p)) _ _ (λ _. Reads-one p (SpellsRegister p) Any (register p) _ (Reads-register ws n c p) (λ a u s. a_register s) (λ a q. omega (arith, six)))
      (λ _. Reads-cond ws _ _ (suc c) (suc c) p (at_key k.Parser (slice_get ws p)) _ _
      (λ _. Reads-one p (SpellsParser p) (λ d. parser_height d ≤ h - 4 + 3) (parser p) _ (Reads-parser ws n c (h - 4) (omega (arith, six)) p) (λ a u s. a_parser s) (λ a q. omega (arith, six, q)))
      (λ _. Reads-cond ws _ _ (suc c) (suc c) p (at_key k.Control (slice_get ws p)) _ _
      (λ _. Reads-one p (SpellsControl p) (λ d. control_height d ≤ h - 2 + 1) (control p) _ (Reads-control ws n c (h - 2) (omega (arith, six)) p) (λ a u s. a_control s) (λ a q. omega (arith, six, q)))
      (λ _. Reads-cond ws _ _ (suc c) (suc c) p (at_key k.Header (slice_get ws p)) _ _ (λ _. Reads-header p) (λ _. Reads-struct p))))))

  -- ---- programs

  Reads-includes : (j p : ℕ) → Reads ws (λ _ u. SpellsIncludes u) Any (suc c) (suc c) p (includes_at ws n (suc c) h j p)
  unfolding includes_at
  Reads-includes zero p = Reads-spent ws _ _ (suc c) (suc c) p
  Reads-includes (suc j) p =
      Reads-cond ws _ _ (suc c) (suc c) p (at_include (slice_get ws p)) _ _
      (λ e. let l = include_lexeme (slice_get ws p) e in
      Reads-lexeme ws _ _ (suc c) (suc c) (suc c) p (include l.0) _ l.1 refl (tt, [], an_include l.0 no_include, tt) (Reads-map ws _ _ _ _ (suc c) (suc c) (p + 1) _ (λ a v s. an_include l.0 s) (λ a q. q) (Reads-includes j (p + 1))))
      (λ _. Reads-ok ws _ _ (suc c) p tt no_include tt)

  -- with a bracket open
  Reads-part : (p : ℕ) → Reads ws (SpellsPart p) Any c c p (part_at ws n (suc c) h p)
  unfolding part_at
  Reads-part p =
      Reads-named ws n _ _ c c p _ (λ x. (x, key k.Open ∷ key k.Close ∷ [], a_part x, tt))
      (λ x _. Reads-expect ws _ _ (suc b) b c (p + 1) k.Open _ x (key k.Close ∷ []) refl (a_part x) tt
      (Reads-expect ws _ _ b (suc b) c (p + 1 + 1) k.Close _ x [] refl (a_part x) tt (Reads-ok ws _ _ c (p + 1 + 1 + 1) x (a_part x) tt)))

  Reads-parts : (p : ℕ) → Reads ws (SpellsParts p) Any (suc c) (suc c) p (parts_at ws n (suc c) h p)
  unfolding parts_at
  Reads-parts p =
      let a = some_name in
      let one = the_parts {p = p} (last (a_part a)) in
      let end = name a ∷ key k.Open ∷ key k.Close ∷ key k.Close ∷ [] in
      Reads-expect ws _ _ (suc c) (suc c) (suc c) p k.V1Switch _ (a ∷ []) (key k.Open ∷ end) refl one tt
      (Reads-expect ws _ _ (suc c) c (suc c) (p + 1) k.Open _ (a ∷ []) end refl one tt
      (Reads-bind ws (SpellsList SpellsPart (p + 1 + 1)) _ (Each Any) _ c c (suc c) (p + 1 + 1) _ _ (Reads-list ws SpellsPart Any (part_at ws n (suc c) h) c Reads-part least_part n (p + 1 + 1))
      (λ xs v s. (xs, key k.Close ∷ [], the_parts s, λ _. tt))
      (λ xs v st s _. Reads-expect ws _ _ c (suc c) (suc c) xs.1 k.Close _ xs.0 [] refl (the_parts s) tt (Reads-ok ws _ _ (suc c) (xs.1 + 1) xs.0 (the_parts s) tt))))

  Reads-main : (p : ℕ) → Reads ws (SpellsMain p) Any (suc c) (suc c) p (main_at ws n (suc c) h p)
  unfolding main_at
  Reads-main p =
      Reads-bind ws (SpellsParts p) _ Any _ (suc c) (suc c) (suc c) p _ _ (Reads-parts p)
      (λ xs w s. (xs, name main_name ∷ key k.Semicolon ∷ [], main_of s, λ _. tt))
      (λ xs w st s _. Reads-this_name ws n main_name _ _ (suc c) (suc c) xs.1 _ xs.0 (key k.Semicolon ∷ []) (main_of s) tt
      (Reads-expect ws _ _ (suc c) (suc c) (suc c) (xs.1 + 1) k.Semicolon _ xs.0 [] refl (main_of s) tt (Reads-ok ws _ _ (suc c) (xs.1 + 1 + 1) xs.0 (main_of s) tt)))

  pub Reads-whole : Reads ws SpellsProgram (λ t. height t ≤ h + 1) (suc c) (suc c) 0 (whole_at ws n (suc c) h)
  unfolding whole_at
  Reads-whole =
      let a = some_name in
      let low : 1 ≤ h + 1 = omega arith in
      Reads-bind ws (λ _ u. SpellsIncludes u) _ Any _ (suc c) (suc c) (suc c) 0 _ _ (Reads-includes n 0)
      (λ _ s f. (made [] (a ∷ []), main_lexemes, program_of (0 + length s) (0 + length s) [] (a ∷ []) s [] main_lexemes refl (omega arith) f no_more (least_main (0 + length s)), λ _. low))
      (λ i s st f _. let at = Stands-length ws 0 i.1 s st in
      Reads-bind ws (SpellsEach SpellsTop i.1) _ (Each TopLow) _ (suc c) (suc c) (suc c) i.1 _ _ (Reads-each ws SpellsTop TopLow (top_at ws n (suc c) h) (suc c) Reads-top ends_tops n i.1)
      (λ ts u t. (made ts (a ∷ []), main_lexemes, program_of i.1 (i.1 + length u) ts (a ∷ []) s u main_lexemes at refl f t (least_main (i.1 + length u)), λ q. omega (arith, each_low top_height h ts q)))
      (λ ts u st' t q. let on = Stands-length ws i.1 ts.1 u st' in
      let fit : height (made ts.0 []) ≤ h + 1 = omega (arith, each_low top_height h ts.0 q) in
      Reads-bind ws (SpellsMain ts.1) _ Any _ (suc c) (suc c) (suc c) ts.1 _ _ (Reads-main ts.1)
      (λ xs w r. (made ts.0 xs, [], rw (append-nil w) (program_of i.1 ts.1 ts.0 xs s u w at on f t r), λ _. fit))
      (λ xs w last r _. Reads-ok ws _ _ (suc c) xs.1 (made ts.0 xs.0) (rw (append-nil w) (program_of i.1 ts.1 ts.0 xs.0 s u w at on f t r)) fit)))
