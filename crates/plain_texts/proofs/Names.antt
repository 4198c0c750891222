-- The names that lexemes declare.
use Rattle.std.proofs.Common.{◌≡◌, ℕ, ◌≤◌, Bool, true, false, ◌&&◌, not, List, [], ◌∷◌, ◌++◌, length, length-append, refl, ap, ◌∙◌, arith}
use Rattle.std.proofs.lemmas.Bool.Decides.{nat_tests}
use Rattle.std.specs.List.{AllByRecursion, list_all}
use Rattle.lex_text.specs.NameToken.{is_name, is_name_start, is_name_byte, is_digit}
use Rattle.lex_text.specs.declared.token.Words.TheVariants.{Indus}
use Rattle.lex_words.specs.Seen.{Lexeme, name, key}
use Rattle.lex_words.specs.declared.key.Key.TheVariants as k
use Rattle.lex_words.specs.Written.{AreLexemes}
use Rattle.indus_tree.specs.Tree.{Decl}
use Rattle.indus_spelling.specs.Declarations.{SpellsDecl, a_tele, a_sensor, a_header, a_control, SpellsDecls, no_decl, a_decl}
use Rattle.lower_lists.specs.Names.{is_plain}
use Rattle.flat_laws.specs.Numbered.{ArePlain}

pub both : (xs ys : List Lexeme) → AreLexemes Indus (xs ++ ys) → AreLexemes Indus xs × AreLexemes Indus ys
both [] ys h = (tt, h)
both (x ∷ xs) ys h = let rest = both xs ys h.1 in ((h.0, rest.0), rest.1)

start_no_digit : (b : ℕ) → is_name_start b ≡ true → is_digit b ≡ false
start_no_digit b h = grind (arith, nat_tests)

name_plain : (x : List ℕ) → is_name x ≡ true → is_plain x ≡ true
name_plain [] h = refl
name_plain (b ∷ bs) h = by (is_name_start b) (list_all is_name_byte bs) refl h
  where
    by : (s t : Bool) → is_name_start b ≡ s → s && t ≡ true → not (is_digit b) ≡ true
    by true t e h = ap not (start_no_digit b e)
    by false t e h = absurd (let c : false ≡ true = h in cc)

start_is_byte : (b : ℕ) → is_name_start b ≡ true → is_name_byte b ≡ true
start_is_byte b h = grind (arith, nat_tests)

name_bytes : (x : List ℕ) → is_name x ≡ true → list_all is_name_byte x ≡ true
name_bytes [] h = refl
name_bytes (b ∷ bs) h = by (is_name_start b) refl h
  where
    by : (s : Bool) → is_name_start b ≡ s → s && list_all is_name_byte bs ≡ true → is_name_byte b && list_all is_name_byte bs ≡ true
    by true e t = ap (λ (c : Bool). c && list_all is_name_byte bs) (start_is_byte b e) ∙ t
    by false e t = absurd (let c : false ≡ true = t in cc)

decl_plain : {p : ℕ} {d : Decl} {u : List Lexeme} → SpellsDecl p d u → AreLexemes Indus u → is_plain d.name ≡ true
decl_plain (a_tele x {u = u} s) h = name_plain x (both u (name x ∷ key k.Semicolon ∷ []) h.1).1.0.0
decl_plain (a_sensor x {u = u} {v = v} s e) h = name_plain x (both u (name x ∷ (v ++ key k.Semicolon ∷ [])) h.1).1.0.0
decl_plain (a_header x {u = u} {v = v} t path) h = name_plain x (both u (name x ∷ key k.Assign ∷ (v ++ key k.Semicolon ∷ [])) h.1).1.0.0
decl_plain (a_control x {u = u} s) h = name_plain x (both u (name x ∷ key k.Semicolon ∷ []) h.1).1.0.0

decl_word : {p : ℕ} {d : Decl} {u : List Lexeme} → SpellsDecl p d u → AreLexemes Indus u → list_all is_name_byte d.name ≡ true
decl_word (a_tele x {u = u} s) h = name_bytes x (both u (name x ∷ key k.Semicolon ∷ []) h.1).1.0.0
decl_word (a_sensor x {u = u} {v = v} s e) h = name_bytes x (both u (name x ∷ (v ++ key k.Semicolon ∷ [])) h.1).1.0.0
decl_word (a_header x {u = u} {v = v} t path) h = name_bytes x (both u (name x ∷ key k.Assign ∷ (v ++ key k.Semicolon ∷ [])) h.1).1.0.0
decl_word (a_control x {u = u} s) h = name_bytes x (both u (name x ∷ key k.Semicolon ∷ []) h.1).1.0.0

pub decls_words : {p : ℕ} {ds : List Decl} {ws : List Lexeme} → SpellsDecls p ds ws → AreLexemes Indus ws → AllByRecursion (λ d. list_all is_name_byte d.name ≡ true) ds
decls_words no_decl h = tt
decls_words (a_decl {u = u} {v = v} d rest) h =
    let parts = both u v h in
    (decl_word d parts.0, decls_words rest parts.1)

pub decls_plain : {p : ℕ} {ds : List Decl} {ws : List Lexeme} → SpellsDecls p ds ws → AreLexemes Indus ws → ArePlain ds
decls_plain no_decl h = tt
decls_plain (a_decl {u = u} {v = v} d rest) h =
    let parts = both u v h in
    (decl_plain d parts.0, decls_plain rest parts.1)

-- each declaration has a lexeme of its own
decl_long : {p : ℕ} {d : Decl} {u : List Lexeme} → SpellsDecl p d u → 1 ≤ length u
decl_long (a_tele x s) = omega arith
decl_long (a_sensor x s e) = omega arith
decl_long (a_header x t path) = omega arith
decl_long (a_control x s) = omega arith

pub decls_few : {p : ℕ} {ds : List Decl} {ws : List Lexeme} → SpellsDecls p ds ws → length ds ≤ length ws
decls_few no_decl = omega arith
decls_few (a_decl {u = u} {v = v} d rest) =
    let one = decl_long d in
    let others = decls_few rest in
    let l = length-append u v in
    omega (arith, one, others, l)
