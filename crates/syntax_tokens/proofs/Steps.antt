-- Reading a text piece by piece.
use Rattle.std.proofs.Common.{◌≡◌, ◌≤◌, ◌+◌, ℕ, List, [], ◌∷◌, ◌++◌, length, take, drop, Option, sym, subst, refl, ap, ◌∙◌, append_assoc}
use Rattle.std.proofs.lemmas.List.{append-nil, drop-drop, take-append-drop, length-take-le, take_all, drop_all}
use Rattle.std.proofs.lemmas.List.Sums.{fold-append}
use Rattle.std.proofs.Math.Seq.{take-add}
use Rattle.std.specs.List.{fold}
use Rattle.lang_base.specs.declared.place.Place.{Place}
use Rattle.syntax_tokens.specs.declared.token.Token.{Token}
use Rattle.syntax_tokens.specs.declared.token.TokenKind.{TokenKind}
use Rattle.lang_base.specs.declared.refusal.Kind.{Kind}
use Rattle.lang_base.specs.declared.refusal.Refusal.{Refusal}
use Rattle.syntax_tokens.specs.declared.piece.Found.{Found}
use Rattle.syntax_tokens.specs.declared.piece.Fault.{Fault}
use Rattle.syntax_tokens.specs.Fault.{IsFault}
use Rattle.syntax_tokens.specs.Reading.{IsFound}
use Rattle.syntax_tokens.specs.Cutting.{Pieces, text_of, StandBefore, token_at, tokens_of, Cuts, FaultsAt}
use Rattle.syntax_tokens.specs.Place.{next_place, first_place, place_after}
use Rattle.syntax_tokens.specs.Piece.{IsPiece}

-- the text is read up to an offset and a place, with these tokens
pub record ReadsTo (bytes : List ℕ) (at : ℕ) (tokens : List Token) (place : Place) : Type 0 where
  pub pieces : Pieces
  pub front : take at bytes ≡ text_of pieces
  pub each : StandBefore (drop at bytes) pieces
  pub reported : tokens ≡ tokens_of [] pieces
  pub placed : place ≡ place_after (take at bytes)

text_of-push : (pieces : Pieces) (kind : Option TokenKind) (text : List ℕ) → text_of (pieces ++ (kind, text) ∷ []) ≡ text_of pieces ++ text
text_of-push [] kind text = append-nil text
text_of-push ((k, t) ∷ pieces) kind text = ap (λ bs. t ++ bs) (text_of-push pieces kind text) ∙ sym (append_assoc t (text_of pieces) text)

StandBefore-push : (left : List ℕ) (pieces : Pieces) (kind : Option TokenKind) (text : List ℕ) → StandBefore (text ++ left) pieces → IsPiece kind text left → StandBefore left (pieces ++ (kind, text) ∷ [])
StandBefore-push left [] kind text each is = (is, tt)
StandBefore-push left ((k, t) ∷ pieces) kind text each is =
    let following : text_of pieces ++ (text ++ left) ≡ text_of (pieces ++ (kind, text) ∷ []) ++ left = sym (append_assoc (text_of pieces) text left) ∙ ap (λ bs. bs ++ left) (sym (text_of-push pieces kind text)) in
    let P : List ℕ → Type 0 = λ bs. IsPiece k t bs in
    (subst P following each.0, StandBefore-push left pieces kind text each.1 is)

tokens_of-push : (front : List ℕ) (pieces : Pieces) (kind : Option TokenKind) (text : List ℕ) → tokens_of front (pieces ++ (kind, text) ∷ []) ≡ tokens_of front pieces ++ token_at (length (front ++ text_of pieces)) (length text) (place_after (front ++ text_of pieces)) kind
tokens_of-push front [] kind text = rw (append-nil front, append-nil (token_at (length front) (length text) (place_after front) kind)) refl
tokens_of-push front ((k, t) ∷ pieces) kind text =
    let token = token_at (length front) (length t) (place_after front) k in
    ap (λ ts. token ++ ts) (tokens_of-push (front ++ t) pieces kind text)
    ∙ ap (λ bs. token ++ (tokens_of (front ++ t) pieces ++ token_at (length bs) (length text) (place_after bs) kind)) (append_assoc front t (text_of pieces))
    ∙ sym (append_assoc token (tokens_of (front ++ t) pieces) (token_at (length (front ++ (t ++ text_of pieces))) (length text) (place_after (front ++ (t ++ text_of pieces))) kind))

-- one piece more
pub read-more : (bytes : List ℕ) (at len : ℕ) (tokens : List Token) (place next : Place) (kind : Option TokenKind) → at ≤ length bytes → len ≤ length (drop at bytes) → ReadsTo bytes at tokens place → IsPiece kind (take len (drop at bytes)) (drop len (drop at bytes)) → next ≡ fold next_place place (take len (drop at bytes)) → ReadsTo bytes (at + len) (tokens ++ token_at at len place kind) next
read-more bytes at len tokens place next kind within fits read is goes =
    let text = take len (drop at bytes) in
    let left = drop len (drop at bytes) in
    let longer : take (at + len) bytes ≡ take at bytes ++ text = take-add at len bytes in
    let rest : drop (at + len) bytes ≡ left = sym (drop-drop len at bytes) in
    let P : List ℕ → Type 0 = λ bs. StandBefore bs read.pieces in
    let Q : List ℕ → Type 0 = λ bs. StandBefore bs (read.pieces ++ (kind, text) ∷ []) in
    let offset : at ≡ length (text_of read.pieces) = sym (length-take-le at bytes within) ∙ ap length read.front in
    let size : len ≡ length text = sym (length-take-le len (drop at bytes) fits) in
    let here : place ≡ place_after (text_of read.pieces) = read.placed ∙ ap place_after read.front in
    record {
      pieces = read.pieces ++ (kind, text) ∷ [];
      front = longer ∙ ap (λ bs. bs ++ text) read.front ∙ sym (text_of-push read.pieces kind text);
      each = subst Q (sym rest) (StandBefore-push left read.pieces kind text (subst P (sym (take-append-drop len (drop at bytes))) read.each) is);
      reported = ap (λ ts. ts ++ token_at at len place kind) read.reported
          ∙ ap (λ n. tokens_of [] read.pieces ++ token_at n len place kind) offset
          ∙ ap (λ n. tokens_of [] read.pieces ++ token_at (length (text_of read.pieces)) n place kind) size
          ∙ ap (λ p. tokens_of [] read.pieces ++ token_at (length (text_of read.pieces)) (length text) p kind) here
          ∙ sym (tokens_of-push [] read.pieces kind text);
      placed = goes ∙ ap (λ p. fold next_place p text) read.placed ∙ sym (fold-append next_place first_place (take at bytes) text) ∙ ap place_after (sym longer);
    }

-- one piece more, as the code finds it
pub read-found : (bytes left : List ℕ) (at : ℕ) (tokens : List Token) (place next : Place) (found : Found) → at ≤ length bytes → left ≡ drop at bytes → ReadsTo bytes at tokens place → IsFound left found → next ≡ fold next_place place (take found.len left) → ReadsTo bytes (at + found.len) (tokens ++ token_at at found.len place found.token) next
read-found bytes left at tokens place next found within is read finds goes =
    let P : List ℕ → Type 0 = λ bs. IsFound bs found in
    let here : IsFound (drop at bytes) found = subst P is finds in
    read-more bytes at found.len tokens place next found.token within here.within read here.is (goes ∙ ap (λ bs. fold next_place place (take found.len bs)) is)

-- where all is read, the text is cut
pub cut-all : (bytes : List ℕ) (at : ℕ) (tokens : List Token) (place : Place) → length bytes ≤ at → ReadsTo bytes at tokens place → Cuts bytes tokens place
cut-all bytes at tokens place all read =
    let P : List ℕ → Type 0 = λ bs. StandBefore bs read.pieces in
    let whole : take at bytes ≡ bytes = take_all at bytes all in
    record {
      pieces = read.pieces;
      whole = sym whole ∙ read.front;
      each = subst P (drop_all at bytes all) read.each;
      reported = read.reported;
      ends = read.placed ∙ ap place_after whole;
    }

-- where no piece stands after what is read, the text has that fault
pub fault-following : (bytes left : List ℕ) (at : ℕ) (tokens : List Token) (place : Place) (fault : Fault) (refusal : Refusal) → left ≡ drop at bytes → ReadsTo bytes at tokens place → IsFault fault.kind left fault.at → refusal.kind ≡ fault.kind → refusal.place ≡ fold next_place place (take fault.at left) → FaultsAt bytes refusal
fault-following bytes left at tokens place fault refusal is read faulty kind placed =
    let P : List ℕ → Type 0 = λ bs. StandBefore bs read.pieces in
    let Q : Kind → Type 0 = λ k. IsFault k left fault.at in
    record {
      pieces = read.pieces;
      left = left;
      at = fault.at;
      whole = sym (take-append-drop at bytes) ∙ ap (λ bs. bs ++ drop at bytes) read.front ∙ ap (λ bs. text_of read.pieces ++ bs) (sym is);
      each = subst P (sym is) read.each;
      fault = subst Q (sym kind) faulty;
      placed = placed ∙ ap (λ p. fold next_place p (take fault.at left)) (read.placed ∙ ap place_after read.front) ∙ sym (fold-append next_place first_place (text_of read.pieces) (take fault.at left));
    }
