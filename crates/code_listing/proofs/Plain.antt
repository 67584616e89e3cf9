-- The listing of code by its plain form and its titles.
use Rattle.std.proofs.Common.{◌≡◌, List, [], ◌∷◌, ◌++◌, map, length, refl, sym, ap, ap₂, arith}
use Rattle.std.specs.List.{All, flat_map}
use Rattle.std.proofs.lemmas.List.Elements.{All-head, All-tail}
use Rattle.lang_base.specs.declared.place.Place.{Place}
use Rattle.code_instrs.specs.declared.code.Body.{Body}
use Rattle.code_instrs.specs.declared.instr.Instr.{Instr}
use Rattle.code_instrs.specs.Plain.{lines_of, plain_body}
use Rattle.code_listing.specs.Listing.{body_text, title_line, instr_lines, titled_text}

all_instrs : (instrs : List Instr) (places : List Place) → length instrs ≡ length places → map (λ line. line.instr) (lines_of instrs places) ≡ instrs
all_instrs [] places even = refl
all_instrs (i ∷ instrs) [] even = absurd (omega arith)
all_instrs (i ∷ instrs) (p ∷ places) even = ap (λ is. i ∷ is) (all_instrs instrs places (omega arith))

pub reported_plainly : (bodies : List Body) → All (λ body. length body.instrs ≡ length body.places) bodies
    → flat_map body_text bodies ≡ titled_text (map (λ body. body.title) bodies) (map plain_body bodies)
reported_plainly [] placed = refl
reported_plainly (b ∷ bodies) placed =
    ap₂ (λ is rest. title_line b.title ++ instr_lines 0 is ++ rest)
    (sym (all_instrs b.instrs b.places (All-head (λ body. length body.instrs ≡ length body.places) b bodies placed)))
    (reported_plainly bodies (All-tail (λ body. length body.instrs ≡ length body.places) b bodies placed))
