-- How the titles of bodies follow each other.
use Rattle.std.proofs.Common.{◌≡◌, ◌∙◌, ℕ, List, [], ◌∷◌, ◌++◌, map, refl, sym, ap, ap₂, subst, append_assoc}
use Rattle.std.specs.List.{All}
use Rattle.std.specs.Option.{option_map_or}
use Rattle.std.specs.Prelude.{Option, Some, None, option_map, slice_get}
use Rattle.std.proofs.lemmas.List.{append-nil}
use Rattle.std.proofs.lemmas.List.Elements.{All-push, All-same, All-nil}
use Rattle.std.proofs.lemmas.Option.{slice_get-map}
use Rattle.lang_typed.specs.declared.program.Class.{Class}
use Rattle.lang_typed.specs.declared.program.Member.{Member}
use Rattle.lang_typed.specs.declared.program.Program.{Program}
use Rattle.lang_typed.specs.Names.{named_class, named_member, names_of}
use Rattle.lang_typed.specs.Plain.{plain_member, plain_program}
use Rattle.code_instrs.specs.declared.code.Body.{Body}
use Rattle.code_instrs.specs.declared.code.Title.{Title}
use Rattle.code_instrs.specs.declared.code.Title.TheVariants as title
use Rattle.code_instrs.specs.Plain.{plain_body, plain_title, PlainCode}
use Rattle.code_instrs.specs.Plain.{Title as PlainTitle}
use Rattle.code_scheme.specs.Whole.{compiled}
use Rattle.code_compile.specs.Titles.{Follow, HasPlaces, member_of, member_title, member_titles, members_in, name_of, titled, titles_of}

members_on : (bodies more : List Body) → members_in (bodies ++ more) ≡ members_in bodies ++ members_in more
members_on [] more = refl
members_on (b ∷ bodies) more = ap (λ ms. member_of b.title ++ ms) (members_on bodies more) ∙ sym (append_assoc (member_of b.title) (members_in bodies) (members_in more))

-- one more body
pub follows_one : (before after : List Body) (body : Body) (title : Title) → after ≡ before ++ body ∷ [] → body.title ≡ title → HasPlaces body
    → Follow before after (member_of title)
follows_one before after body title pushed is placed = record {
  members = ap members_in pushed ∙ members_on before (body ∷ []) ∙ ap (λ ms. members_in before ++ ms) (append-nil (member_of body.title) ∙ ap member_of is);
  placed = λ all. All-same HasPlaces after (before ++ body ∷ []) pushed (All-push HasPlaces before body all placed);
}

pub follows_none : (bodies : List Body) → Follow bodies bodies []
follows_none bodies = record { members = sym (append-nil (members_in bodies)); placed = λ all. all }

-- bodies after bodies
pub follow_on : (first second third : List Body) (members more : List (List ℕ)) → Follow first second members → Follow second third more → Follow first third (members ++ more)
follow_on first second third members more f g = record {
  members = g.members ∙ ap (λ ms. ms ++ more) f.members ∙ append_assoc (members_in first) members more;
  placed = λ all. g.placed (f.placed all);
}

-- the title of a member among all classes
abbrev pub title_in : List Class → Member → List ℕ
title_in classes m = member_title (name_of (slice_get classes m.class.number)) m.name

-- so far bodies followed, and the titles of the members that are left make them all
pub record TitledSoFar (classes : List Class) (before now : List Body) (rest all : List Member) : Type 0 where
  pub made : List (List ℕ)
  pub follow : Follow before now made
  pub whole : made ++ map (title_in classes) rest ≡ map (title_in classes) all

pub titled_none : (classes : List Class) (bodies : List Body) (all : List Member) → TitledSoFar classes bodies bodies all all
titled_none classes bodies all = record { made = []; follow = follows_none bodies; whole = refl }

pub titled_one : (classes : List Class) (before now after : List Body) (m : Member) (owner : Option Class) (left rest all : List Member) → left ≡ m ∷ rest
    → owner ≡ slice_get classes m.class.number → Follow now after (member_title (name_of owner) m.name ∷ []) → TitledSoFar classes before now left all
    → TitledSoFar classes before after rest all
titled_one classes before now after m owner left rest all is found f w = record {
  made = w.made ++ title_in classes m ∷ [];
  follow = follow_on before now after w.made (title_in classes m ∷ []) w.follow (subst (λ o. Follow now after (member_title (name_of o) m.name ∷ [])) found f);
  whole = append_assoc w.made (title_in classes m ∷ []) (map (title_in classes) rest) ∙ ap (λ ms. w.made ++ map (title_in classes) ms) (sym is) ∙ w.whole;
}

pub titled_all : (classes : List Class) (before now : List Body) (rest all : List Member) → rest ≡ [] → TitledSoFar classes before now rest all
    → Follow before now (map (title_in classes) all)
titled_all classes before now rest all is w =
    subst (λ ms. Follow before now ms) (sym (append-nil w.made) ∙ ap (λ ms. w.made ++ map (title_in classes) ms) (sym is) ∙ w.whole) w.follow

-- titles by those of the members among them
titled_first : (t : Title) (rest : List Title) (members : List (List ℕ)) (others : List PlainTitle) → rest ≡ titled members others
    → t ∷ rest ≡ titled (member_of t ++ members) (plain_title t ∷ others)
titled_first (title.Member member) rest members others is = ap (λ ts. title.Member member ∷ ts) is
titled_first (title.Branch site number) rest members others is = ap (λ ts. title.Branch site number ∷ ts) is

titles_are : (bodies : List Body) → map (λ body. body.title) bodies ≡ titled (members_in bodies) (map (λ body. body.title) (map plain_body bodies))
titles_are [] = refl
titles_are (b ∷ bodies) = titled_first b.title _ (members_in bodies) _ (titles_are bodies)

named_read : (class : Option Class) → option_map_or (λ k. k.name) (option_map named_class class) [] ≡ name_of class
named_read None = refl
named_read (Some class) = refl

name_read : (classes : List Class) (c : ℕ) → name_of (slice_get classes c) ≡ option_map_or (λ k. k.name) (slice_get (map named_class classes) c) []
name_read classes c = sym (ap (λ o. option_map_or (λ k. k.name) o []) (slice_get-map named_class classes c) ∙ named_read (slice_get classes c))

members_named : (program : Program) (members : List Member) → map (title_in program.classes) members ≡ member_titles (names_of program) (map plain_member members) (map named_member members)
members_named program [] = refl
members_named program (m ∷ members) =
    ap₂ (λ class rest. member_title class m.name ∷ rest) (name_read program.classes m.class.number) (members_named program members)

-- the titles of a whole code
pub all_titles : (program : Program) (before bodies : List Body) (code : PlainCode) → before ≡ [] → Follow before bodies (map (title_in program.classes) program.members)
    → code.bodies ≡ map plain_body bodies → code ≡ compiled (plain_program program) → map (λ body. body.title) bodies ≡ titles_of (plain_program program) (names_of program)
all_titles program before bodies code empty f has is =
    titles_are bodies
    ∙ ap₂ (λ ms bs. titled ms (map (λ body. body.title) bs))
    (f.members ∙ ap (λ bs. members_in bs ++ map (title_in program.classes) program.members) empty ∙ members_named program program.members)
    (sym has ∙ ap (λ (c : PlainCode). c.bodies) is)

pub all_placed : (before bodies : List Body) (members : List (List ℕ)) → before ≡ [] → Follow before bodies members → All HasPlaces bodies
all_placed before bodies members empty f = f.placed (All-same HasPlaces before [] empty (All-nil HasPlaces))
