-- A text passes as one program, or it has one fault.
use Rattle.std.proofs.Common.{◌≡◌, ◌≤◌, ◌∙◌, ℕ, List, length, Result, Ok, Err, inl, inr, ap, sym, subst}
use Rattle.lang_base.specs.declared.place.Place.{Place}
use Rattle.lang_base.specs.declared.refusal.Refusal.{Refusal}
use Rattle.syntax_tokens.specs.declared.token.Token.{Token}
use Rattle.syntax_tokens.specs.Cutting.{OneCutting}
use Rattle.syntax_grammar.specs.OneProgram.{OneProgram}
use Rattle.syntax_grammar.specs.OneRefusal.{OneRefusal}
use Rattle.syntax_grammar.specs.Program.{IsProgram}
use Rattle.lang_typed.specs.Plain.{PlainProgram}
use Rattle.tool_front.specs.Front.{first_place, IsFault, IsPassed, IsTokenFault, of_grammar, of_program}
use Rattle.body_check.specs.Methods.{after_ok}
use Rattle.tool_front.specs.Judging.{Judged, HasNames, IsAccepted, IsFaulty, judge}
use Rattle.sound_text.specs.Laws.{HasVerdict, OneNaming, OneVerdict, OnePassing}

-- what is made or refused is one
made_once : {T U : Type 0} (r : Result T U) (x y : T) → r ≡ Ok x → r ≡ Ok y → x ≡ y
made_once r x y h k = cc

refused_once : {T U : Type 0} (r : Result T U) (x y : U) → r ≡ Err x → r ≡ Err y → x ≡ y
refused_once r x y h k = cc

made_or_refused : {T V : Type 0} (part : T → V) (r : Result T Refusal) (x : V) (y : Refusal) → after_ok part r ≡ Ok x → r ≡ Err y → ⊥
made_or_refused part (Ok made) x y h k = cc
made_or_refused part (Err refusal) x y h k = cc

pub one_passing : OneCutting → OneProgram → OnePassing
one_passing cutting programs text place other one another p q =
    let same = (cutting.tokens text q.tokens p.tokens q.end p.end q.cut p.cut).0 in
    let derived = subst (λ ts. IsProgram text ts q.has_program.program) same q.has_program.derived in
    let tree : q.has_program.program ≡ p.has_program.program = programs text p.tokens q.has_program.program p.has_program.program derived p.has_program.derived in
    made_once (after_ok (λ (j : Judged). j.typed) (judge p.has_program.program)) one another p.has_program.accepted (subst (λ t. IsAccepted t another) tree q.has_program.accepted)

pub one_naming : OneCutting → OneProgram → OneNaming
one_naming cutting programs text first second p q =
    let same = (cutting.tokens text q.tokens p.tokens q.end p.end q.cut p.cut).0 in
    let derived = subst (λ ts. IsProgram text ts q.has_named.program) same q.has_named.derived in
    let tree : q.has_named.program ≡ p.has_named.program = programs text p.tokens q.has_named.program p.has_named.program derived p.has_named.derived in
    made_once (after_ok (λ (j : Judged). j.names) (judge p.has_named.program)) first second p.has_named.has_names (subst (λ t. HasNames t second) tree q.has_named.has_names)

pub one_verdict : ((text : List ℕ) → length text ≤ 1048576 → HasVerdict text) → OneCutting → OneProgram → OneRefusal → OneVerdict
one_verdict some cutting programs refusals = record { some = some; one_fault = one_fault; not_both = not_both; one_place = one_place }
  where
    one_place : (text : List ℕ) (place other : Place) (one another : PlainProgram) → IsPassed text place one → IsPassed text other another → place ≡ other
    one_place text place other one another p q =
        let same = cutting.tokens text p.tokens q.tokens p.end q.end p.cut q.cut in
        p.first ∙ ap (λ ts. first_place ts p.end) same.0 ∙ ap (λ end. first_place q.tokens end) same.1 ∙ sym q.first

    -- two faults of one program, or of one grammar
    later : (text : List ℕ) (tokens : List Token) (end : Place) (first second : Refusal) → IsTokenFault text tokens end first → IsTokenFault text tokens end second → first ≡ second
    later text tokens end first second (of_grammar f) (of_grammar g) = refusals.reported_once text tokens end first second f g
    later text tokens end first second (of_grammar f) (of_program program d faulty) = absurd (refusals.no_program text tokens end first program f d)
    later text tokens end first second (of_program program d faulty) (of_grammar g) = absurd (refusals.no_program text tokens end second program g d)
    later text tokens end first second (of_program program d faulty) (of_program other e broken) =
        let tree : other ≡ program = programs text tokens other program e d in
        refused_once (judge program) first second faulty (subst (λ t. IsFaulty t second) tree broken)

    one_fault : (text : List ℕ) (first second : Refusal) → IsFault text first → IsFault text second → first ≡ second
    one_fault text first second (inl f) (inl g) = cutting.faults text first second f g
    one_fault text first second (inl f) (inr g) = absurd (cutting.either text g.tokens g.end first g.cut f)
    one_fault text first second (inr f) (inl g) = absurd (cutting.either text f.tokens f.end second f.cut g)
    one_fault text first second (inr f) (inr g) =
        let same = cutting.tokens text g.tokens f.tokens g.end f.end g.cut f.cut in
        later text f.tokens f.end first second f.fault (subst (λ ts. IsTokenFault text ts f.end second) same.0 (subst (λ end. IsTokenFault text g.tokens end second) same.1 g.fault))

    faultless : (text : List ℕ) (place : Place) (typed : PlainProgram) (refusal : Refusal) (p : IsPassed text place typed) (end : Place) → IsTokenFault text p.tokens end refusal → ⊥
    faultless text place typed refusal p end (of_grammar f) = refusals.no_program text p.tokens end refusal p.has_program.program f p.has_program.derived
    faultless text place typed refusal p end (of_program program derived faulty) =
        let tree : program ≡ p.has_program.program = programs text p.tokens program p.has_program.program derived p.has_program.derived in
        made_or_refused (λ (j : Judged). j.typed) (judge p.has_program.program) typed refusal p.has_program.accepted (subst (λ t. IsFaulty t refusal) tree faulty)

    not_both : (text : List ℕ) (place : Place) (typed : PlainProgram) (refusal : Refusal) → IsPassed text place typed → IsFault text refusal → ⊥
    not_both text place typed refusal p (inl at) = cutting.either text p.tokens p.end refusal p.cut at
    not_both text place typed refusal p (inr g) =
        let same = (cutting.tokens text g.tokens p.tokens g.end p.end g.cut p.cut).0 in
        faultless text place typed refusal p g.end (subst (λ ts. IsTokenFault text ts g.end refusal) same g.fault)
