-- Words and marks of P4_16 that this subset leaves out. Where one of them, or a text in quotes, is the first lexeme with which nothing goes on, the refusal says so.
use Rattle.std.specs.Prelude.{ℕ, Bool, true, false, List, [], ◌∷◌, Option, Some, None, codes, if◌then◌else◌, ◌||◌}
use Rattle.lex_text.specs.Names.{same_text}
use Rattle.lex_words.specs.Seen.{Lexeme, name, number, key, quoted, include, strange}
use Rattle.lex_words.specs.declared.key.Key.{Key}
use Rattle.lex_words.specs.declared.key.Key.TheVariants.{Error, AddCapped, SubCapped, DotDot, Slash, Percent, At, Hash}

-- kinds of types and declarations
abbrev pub left_out_declarations : List (List ℕ)
left_out_declarations =
    codes "header_union" ∷ codes "enum" ∷ codes "extern" ∷ codes "package" ∷ codes "switch" ∷ codes "int" ∷ codes "varbit" ∷ codes "match_kind" ∷ codes "value_set" ∷ codes "tuple" ∷ codes "abstract" ∷ codes "action_selector" ∷ []

-- calls that copy packets or begin them anew
abbrev pub left_out_copies : List (List ℕ)
left_out_copies =
    codes "lookahead" ∷ codes "advance" ∷ codes "verify" ∷ codes "clone" ∷ codes "clone3" ∷ codes "clone_preserving_field_list" ∷ codes "resubmit" ∷ codes "resubmit_preserving_field_list" ∷ codes "recirculate"
    ∷ codes "recirculate_preserving_field_list" ∷ []

-- counters, other calls, and properties of tables
abbrev pub left_out_calls : List (List ℕ)
left_out_calls =
    codes "counter" ∷ codes "direct_counter" ∷ codes "meter" ∷ codes "direct_meter" ∷ codes "hash" ∷ codes "random" ∷ codes "truncate" ∷ codes "log_msg" ∷ codes "entries" ∷ codes "implementation" ∷ codes "range" ∷ codes "optional" ∷ []

-- the name is one of these
abbrev pub is_one_of : List (List ℕ) → List ℕ → Bool
is_one_of [] s = false
is_one_of (x ∷ xs) s = if same_text s x then true else is_one_of xs s

abbrev pub is_left_out_word : List ℕ → Bool
is_left_out_word s = is_one_of left_out_declarations s || (is_one_of left_out_copies s || is_one_of left_out_calls s)

-- `error` is a word of expressions; elsewhere it is left out
abbrev pub is_left_out_key : Key → Bool
is_left_out_key Error = true
is_left_out_key AddCapped = true
is_left_out_key SubCapped = true
is_left_out_key DotDot = true
is_left_out_key Slash = true
is_left_out_key Percent = true
is_left_out_key At = true
is_left_out_key Hash = true
is_left_out_key _ = false

-- what stands at a place, where a lexeme stands there
abbrev pub is_left_out : Option Lexeme → Bool
is_left_out None = false
is_left_out (Some (name s)) = is_left_out_word s
is_left_out (Some (number n)) = false
is_left_out (Some (key k)) = is_left_out_key k
is_left_out (Some (quoted s)) = true
is_left_out (Some (include s)) = false
is_left_out (Some (strange s)) = false
