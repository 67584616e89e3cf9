-- Words and spaces in a row: the text is cut again into what it was put together of, and says what that says.
use Rattle.std.proofs.Common.{◌≡◌, ◌∙◌, ◌+◌, ◌-◌, ℕ, true, List, [], ◌∷◌, ◌++◌, length, map, take, Option, Some, None, inl, refl, ap, sym, subst, append_assoc, arith}
use Rattle.std.specs.List.{slice_range}
use Rattle.std.proofs.lemmas.List.{append-nil, drop_at, take_at}
use Rattle.lang_base.specs.Lexical.{is_blank, is_name_byte}
use Rattle.syntax_tokens.specs.declared.token.TokenKind.{TokenKind}
use Rattle.syntax_tokens.specs.declared.terminal.Placed.{Placed}
use Rattle.syntax_tokens.specs.declared.terminal.Terminal.{Terminal}
use Rattle.syntax_tokens.specs.Cutting.{Pieces, StandBefore, text_of, tokens_of}
use Rattle.syntax_tokens.specs.Piece.{IsPiece, IsToken, StopsAt}
use Rattle.syntax_tokens.specs.Place.{place_after}
use Rattle.syntax_tokens.specs.Says.{MeanAll, Means}

-- a space, or a word: a token of a kind and a text, which says a terminal
pub data Part : Type 0 where
  space : Part
  word : TokenKind → List ℕ → Terminal → Part

abbrev pub piece_of : Part → Option TokenKind × List ℕ
piece_of space = (None, 32 ∷ [])
piece_of (word kind text said) = (Some kind, text)

abbrev pub pieces_of : List Part → Pieces
pieces_of parts = map piece_of parts

abbrev pub bytes_of : List Part → List ℕ
bytes_of parts = text_of (pieces_of parts)

-- what the words say that stand after these bytes, and then further terminals
abbrev pub said_from : List ℕ → List Part → List Placed → List Placed
said_from front [] after = after
said_from front (space ∷ parts) after = said_from (front ++ 32 ∷ []) parts after
said_from front (word kind text said ∷ parts) after = record { terminal = said; place = place_after front } ∷ said_from (front ++ text) parts after

abbrev pub AllSay : List (List ℕ) → List Part → Type 0
AllSay names [] = Unit {0}
AllSay names (space ∷ parts) = AllSay names parts
AllSay names (word kind text said ∷ parts) = Means names kind text said × AllSay names parts

-- parts after parts

bytes_append : (ps qs : List Part) → bytes_of (ps ++ qs) ≡ bytes_of ps ++ bytes_of qs
bytes_append [] qs = refl
bytes_append (p ∷ ps) qs = ap (λ bs. (piece_of p).1 ++ bs) (bytes_append ps qs) ∙ sym (append_assoc (piece_of p).1 (bytes_of ps) (bytes_of qs))

stand_append : (ps qs : List Part) (left : List ℕ) → StandBefore (bytes_of qs ++ left) (pieces_of ps) → StandBefore left (pieces_of qs) → StandBefore left (pieces_of (ps ++ qs))
stand_append [] qs left s t = t
stand_append (p ∷ ps) qs left s t =
    let e : bytes_of ps ++ (bytes_of qs ++ left) ≡ bytes_of (ps ++ qs) ++ left = sym (append_assoc (bytes_of ps) (bytes_of qs) left) ∙ ap (λ bs. bs ++ left) (sym (bytes_append ps qs)) in
    (subst (λ rest. IsPiece (piece_of p).0 (piece_of p).1 rest) e s.0, stand_append ps qs left s.1 t)

said_append : (front : List ℕ) (ps qs : List Part) (after : List Placed) → said_from front (ps ++ qs) after ≡ said_from front ps (said_from (front ++ bytes_of ps) qs after)
said_append front [] qs after = ap (λ bs. said_from bs qs after) (sym (append-nil front))
said_append front (space ∷ ps) qs after =
    said_append (front ++ 32 ∷ []) ps qs after ∙ ap (λ bs. said_from (front ++ 32 ∷ []) ps (said_from bs qs after)) (append_assoc front (32 ∷ []) (bytes_of ps))
said_append front (word kind text said ∷ ps) qs after =
    ap (λ list. record { terminal = said; place = place_after front } ∷ list)
    (said_append (front ++ text) ps qs after ∙ ap (λ bs. said_from (front ++ text) ps (said_from bs qs after)) (append_assoc front text (bytes_of ps)))

say_append : (names : List (List ℕ)) (ps qs : List Part) → AllSay names ps → AllSay names qs → AllSay names (ps ++ qs)
say_append names [] qs s t = t
say_append names (space ∷ ps) qs s t = say_append names ps qs s t
say_append names (word kind text said ∷ ps) qs s t = (s.0, say_append names ps qs s.1 t)

said_after : (front : List ℕ) (ps : List Part) (after : List Placed) → said_from front ps after ≡ said_from front ps [] ++ after
said_after front [] after = refl
said_after front (space ∷ ps) after = said_after (front ++ 32 ∷ []) ps after
said_after front (word kind text said ∷ ps) after = ap (λ list. record { terminal = said; place = place_after front } ∷ list) (said_after (front ++ text) ps after)

-- each token has its text where it stands
text_there : (front text rest : List ℕ) → slice_range (front ++ (text ++ rest)) (length front) (length front + length text) ≡ text
text_there front text rest =
    ap (take (length front + length text - length front)) (drop_at front (text ++ rest) (length front) refl) ∙ take_at text rest (length front + length text - length front) (omega arith)

say_all : (names : List (List ℕ)) (bytes front : List ℕ) (ps : List Part) → bytes ≡ front ++ bytes_of ps → AllSay names ps →
    MeanAll names bytes (tokens_of front (pieces_of ps)) (said_from front ps [])
say_all names bytes front [] e s = tt
say_all names bytes front (space ∷ ps) e s = say_all names bytes (front ++ 32 ∷ []) ps (e ∙ sym (append_assoc front (32 ∷ []) (bytes_of ps))) s
say_all names bytes front (word kind text said ∷ ps) e s = (
  refl,
  subst (λ t. Means names kind t said) (sym (ap (λ bs. slice_range bs (length front) (length front + length text)) e ∙ text_there front text (bytes_of ps))) s.0,
  say_all names bytes (front ++ text) ps (e ∙ sym (append_assoc front text (bytes_of ps))) s.1,
)

-- what may follow a part: anything, or no byte that a name goes on with
abbrev pub Anything : List ℕ → Type 0
Anything left = Unit {0}

abbrev pub EndsWord : List ℕ → Type 0
EndsWord left = StopsAt is_name_byte left

-- the bytes are parts that can be read where such bytes follow: their terminals derive a tree, whatever comes after them
pub record Reads {T : Type 0} (names : List (List ℕ)) (Ends : List ℕ → Type 0) (Is : List Placed → List Placed → T → Type 0) (bytes : List ℕ) : Type 0 where
  pub parts : List Part
  pub spelled : bytes_of parts ≡ bytes
  pub stand : (left : List ℕ) → Ends left → StandBefore left (pieces_of parts)
  pub say : AllSay names parts
  pub is : (front : List ℕ) → (tree : T) × ((after : List Placed) → Is (said_from front parts after) after tree)

-- one word
pub a_word : (names : List (List ℕ)) (Ends : List ℕ → Type 0) (kind : TokenKind) (text : List ℕ) (said : Terminal) → ((left : List ℕ) → Ends left → IsToken kind text left) → Means names kind text said →
    Reads names Ends (λ before after place. before ≡ record { terminal = said; place = place } ∷ after) text
a_word names Ends kind text said stands means = record {
  parts = word kind text said ∷ [];
  spelled = append-nil text;
  stand = λ left ends. (stands left ends, tt);
  say = (means, tt);
  is = λ front. (place_after front, λ after. refl);
}

a_space_is : is_blank 32 ≡ true
unfolding is_blank
a_space_is = refl

pub a_space : (names : List (List ℕ)) → Reads {T = Unit {0}} names Anything (λ before after it. before ≡ after) (32 ∷ [])
a_space names = record {
  parts = space ∷ [];
  spelled = refl;
  stand = λ left ends. (inl (32, refl, a_space_is), tt);
  say = tt;
  is = λ front. (tt, λ after. refl);
}

-- nothing
pub nothing : {T : Type 0} (names : List (List ℕ)) (Ends : List ℕ → Type 0) (Is : List Placed → List Placed → T → Type 0) (tree : T) → ((here : List Placed) → Is here here tree) → Reads names Ends Is []
nothing names Ends Is tree is = record { parts = []; spelled = refl; stand = λ left ends. tt; say = tt; is = λ front. (tree, is) }

module _ {T U : Type 0} (names : List (List ℕ)) (Ends After : List ℕ → Type 0) (Is : List Placed → List Placed → T → Type 0) (Then : List Placed → List Placed → U → Type 0) where
  -- one after another
  pub followed : (bs cs : List ℕ) → Reads names Ends Is bs → Reads names After Then cs → ((left : List ℕ) → After left → Ends (cs ++ left)) →
      Reads {T = T × U} names After (λ before after tree. (between : List Placed) × Is before between tree.0 × Then between after tree.1) (bs ++ cs)
  followed bs cs p q ends = record {
    parts = p.parts ++ q.parts;
    spelled = bytes_append p.parts q.parts ∙ ap (λ b. b ++ bytes_of q.parts) p.spelled ∙ ap (λ c. bs ++ c) q.spelled;
    stand = λ left here. stand_append p.parts q.parts left (p.stand (bytes_of q.parts ++ left) (subst (λ c. Ends (c ++ left)) (sym q.spelled) (ends left here))) (q.stand left here);
    say = say_append names p.parts q.parts p.say q.say;
    is = λ front.
        let s = p.is front in
        let t = q.is (front ++ bytes_of p.parts) in (
          (s.0, t.0),
          λ after.
              let between = said_from (front ++ bytes_of p.parts) q.parts after in
              subst (λ list. (between : List Placed) × Is list between s.0 × Then between after t.0) (sym (said_append front p.parts q.parts after)) (between, s.1 between, t.1 after),
        );
  }

  -- read as something else
  pub read_as : (bs : List ℕ) → Reads names Ends Is bs → ((left : List ℕ) → After left → Ends left) → (f : T → U) → ((before after : List Placed) (tree : T) → Is before after tree → Then before after (f tree)) →
      Reads names After Then bs
  read_as bs p ends f to = record {
    parts = p.parts;
    spelled = p.spelled;
    stand = λ left here. p.stand left (ends left here);
    say = p.say;
    is = λ front. (let s = p.is front in (f s.0, λ after. to _ after s.0 (s.1 after)));
  }

pub spelled_as : {T : Type 0} {names : List (List ℕ)} {Ends : List ℕ → Type 0} {Is : List Placed → List Placed → T → Type 0} {bs cs : List ℕ} → bs ≡ cs → Reads names Ends Is bs → Reads names Ends Is cs
spelled_as {names = names} {Ends = Ends} {Is = Is} e p = subst (λ b. Reads names Ends Is b) e p

-- as a whole text
pub whole_says : {T : Type 0} {names : List (List ℕ)} {Is : List Placed → List Placed → T → Type 0} {bs : List ℕ} (p : Reads names EndsWord Is bs) → MeanAll names bs (tokens_of [] (pieces_of p.parts)) (said_from [] p.parts [])
whole_says {names = names} {bs = bs} p = say_all names bs [] p.parts (sym p.spelled) p.say

pub whole_is : {T : Type 0} {names : List (List ℕ)} {Is : List Placed → List Placed → T → Type 0} {bs : List ℕ} (p : Reads names EndsWord Is bs) → (tree : T) × ((after : List Placed) → Is (said_from [] p.parts [] ++ after) after tree)
whole_is {Is = Is} p = (let s = p.is [] in (s.0, λ after. subst (λ list. Is list after s.0) (said_after [] p.parts after) (s.1 after)))
