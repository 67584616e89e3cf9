-- Pieces of a text, put after it one after another.
use Rattle.std.proofs.Common.{◌≡◌, ◌∙◌, ℕ, ℤ, List, [], ◌∷◌, ◌++◌, Option, codes, refl, ap, sym, append_assoc}
use Rattle.std.specs.List.{slice_get}
use Rattle.tool_words.specs.Reports.{line}
use Rattle.tool_trace.specs.declared.events.thing.Thing.{Thing}
use Rattle.tool_trace.specs.events.Names.{Spelling, name_of, part_text, spot_text}

-- a field or an element, after the name of what it is of
pub part_put : (s : Spelling) (things : List Thing) (number : ℕ) (index : ℤ) (thing : Option Thing) (out first whole : List ℕ)
    → first ≡ out ++ name_of s.names things number → slice_get things number ≡ thing → whole ≡ first ++ part_text s thing index
    → whole ≡ out ++ spot_text s things number index
part_put s things number index thing out first whole named is put =
    put
    ∙ ap (λ text. text ++ part_text s thing index) named
    ∙ append_assoc out (name_of s.names things number) (part_text s thing index)
    ∙ ap (λ found. out ++ (name_of s.names things number ++ part_text s found index)) (sym is)

-- a line, with its end
pub line_put : (out number task act answer place head first second third fourth fifth : List ℕ)
    → head ≡ number ++ (codes " " ++ (task ++ codes " ")) → first ≡ out ++ head → second ≡ first ++ act → third ≡ second ++ answer → fourth ≡ third ++ place
    → fifth ≡ fourth ++ 10 ∷ [] → fifth ≡ out ++ line (number ++ codes " " ++ task ++ codes " " ++ act ++ answer ++ place)
line_put out number task act answer place head first second third fourth fifth is_head is_first is_second is_third is_fourth is_fifth =
    let whole : fifth ≡ ((((out ++ (number ++ (codes " " ++ (task ++ codes " ")))) ++ act) ++ answer) ++ place) ++ 10 ∷ [] = rw (is_fifth, is_fourth, is_third, is_second, is_first, is_head) refl in
    whole ∙ simp append_assoc
