-- The Connection lines, one more at a time.
use Rattle.std.proofs.Common.{◌≡◌, ℕ, Bool, true, false, ◌||◌, List, [], ◌∷◌, ◌++◌, refl, ap, ◌∙◌}
use Rattle.warp_request.specs.declared.connection.ConnectionLines.{ConnectionLines}
use Rattle.std.specs.Str.{str_eq_ignore_ascii_case}
use Rattle.std.proofs.Math.Bool.{or-false}
use Rattle.httparse.specs.Grammar.{trim_ows}
use Rattle.warp_request.specs.LimitsAndWords.{connection_name, close_word, keep_alive_word}
use Rattle.warp_request.specs.Fields.{values_of, has_word}
use Rattle.warp_request.specs.NamedLines.{connection_lines, connection_with}
use Rattle.warp_request.proofs.FieldLemmas.{values_of-same, values_of-other, has_member-push}

-- one more Connection line
pub connection_lines-push : (values : List (List ℕ)) (value : List ℕ)
    → connection_lines (values ++ value ∷ []) ≡ connection_with (connection_lines values) value
unfolding connection_lines
connection_lines-push values value =
    let close = has_member-push close_word values value in
    let keep = has_member-push keep_alive_word values value in
    cc

-- one more field
pub connection_lines-same : (fields : List (List ℕ × List ℕ)) (name value : List ℕ)
    → str_eq_ignore_ascii_case name connection_name ≡ true
    → connection_lines (values_of connection_name (fields ++ (name, value) ∷ []))
    ≡ connection_with (connection_lines (values_of connection_name fields)) value
connection_lines-same fields name value same =
    ap connection_lines (values_of-same connection_name fields (name, value) same)
    ∙ connection_lines-push (values_of connection_name fields) value

pub connection_lines-other : (fields : List (List ℕ × List ℕ)) (name value : List ℕ)
    → str_eq_ignore_ascii_case name connection_name ≡ false
    → connection_lines (values_of connection_name (fields ++ (name, value) ∷ []))
    ≡ connection_lines (values_of connection_name fields)
connection_lines-other fields name value other =
    ap connection_lines (values_of-other connection_name fields (name, value) other)

or_true : (b : Bool) → (b || true) ≡ true
or_true true = refl
or_true false = refl

-- which of the two words `keep-alive` has
keeps_alone : has_word keep_alive_word keep_alive_word ≡ true
unfolding has_word trim_ows
keeps_alone = refl

closes_not : has_word close_word keep_alive_word ≡ false
unfolding has_word trim_ows
closes_not = refl

-- `keep-alive` and nothing else
pub kept_alone : (lines : ConnectionLines) (value : List ℕ) → value ≡ keep_alive_word
    → record lines { keep_alive = true } ≡ connection_with lines value
kept_alone lines value is =
    let close : (lines.close || has_word close_word value) ≡ lines.close =
    ap (λ (v : List ℕ). lines.close || has_word close_word v) is
    ∙ ap (λ (b : Bool). lines.close || b) closes_not ∙ or-false lines.close in
    let keep : (lines.keep_alive || has_word keep_alive_word value) ≡ true =
    ap (λ (v : List ℕ). lines.keep_alive || has_word keep_alive_word v) is
    ∙ ap (λ (b : Bool). lines.keep_alive || b) keeps_alone ∙ or_true lines.keep_alive in
    cc
