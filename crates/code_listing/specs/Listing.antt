-- The text of compiled code.
use Rattle.std.specs.Prelude.{ℕ, suc, ◌-◌, true, false, List, [], ◌∷◌, ◌++◌, map, length, replicate, codes}
use Rattle.std.specs.Fmt.{decimal, signed_decimal}
use Rattle.std.specs.List.{flat_map}
use Rattle.lang_base.specs.Operators.{unary_name, binary_name}
use Rattle.code_instrs.specs.declared.code.Body.{Body}
use Rattle.code_instrs.specs.declared.code.Code.{Code}
use Rattle.code_instrs.specs.declared.code.Title.{Title}
use Rattle.code_instrs.specs.declared.code.Title.TheVariants as title
use Rattle.code_instrs.specs.declared.instr.Instr.{Instr}
use Rattle.code_instrs.specs.declared.instr.Instr.TheVariants as i
use Rattle.code_instrs.specs.Plain.{PlainBody, PlainCode}

abbrev pub instr_name : Instr → List ℕ
instr_name (i.Int n) = codes "int"
instr_name (i.Bool b) = codes "bool"
instr_name i.Null = codes "null"
instr_name (i.Load slot) = codes "load"
instr_name (i.Store slot) = codes "store"
instr_name i.Pop = codes "pop"
instr_name (i.Unary o) = unary_name o
instr_name (i.Binary o) = binary_name o
instr_name (i.Jump label) = codes "jump"
instr_name (i.Unless label) = codes "unless"
instr_name i.Turn = codes "turn"
instr_name (i.Get field) = codes "get"
instr_name (i.Put field) = codes "put"
instr_name i.Elem = codes "elem"
instr_name i.PutElem = codes "putelem"
instr_name i.Length = codes "length"
instr_name (i.Call site) = codes "call"
instr_name (i.New site) = codes "new"
instr_name (i.Array site) = codes "array"
instr_name i.Return = codes "return"
instr_name i.Leave = codes "leave"
instr_name i.Print = codes "print"
instr_name (i.Text number) = codes "text"
instr_name (i.Fork site) = codes "fork"
instr_name (i.Spread site) = codes "spread"
instr_name i.Join = codes "join"
instr_name (i.Enter site) = codes "enter"
instr_name i.Exit = codes "exit"
instr_name i.End = codes "end"
instr_name (i.Region declaration) = codes "region"
instr_name (i.Part slot) = codes "part"
instr_name (i.InPart slot) = codes "inpart"
instr_name (i.InParts slot) = codes "inparts"

-- a space and the operand, where there is one
abbrev pub numbered : ℕ → List ℕ
numbered n = codes " " ++ decimal n

abbrev pub instr_operand : Instr → List ℕ
instr_operand (i.Int n) = codes " " ++ signed_decimal n
instr_operand (i.Bool true) = codes " true"
instr_operand (i.Bool false) = codes " false"
instr_operand (i.Load slot) = numbered slot
instr_operand (i.Store slot) = numbered slot
instr_operand (i.Jump label) = numbered label
instr_operand (i.Unless label) = numbered label
instr_operand (i.Get field) = numbered field
instr_operand (i.Put field) = numbered field
instr_operand (i.Call site) = numbered site
instr_operand (i.New site) = numbered site
instr_operand (i.Array site) = numbered site
instr_operand (i.Text number) = numbered number
instr_operand (i.Fork site) = numbered site
instr_operand (i.Spread site) = numbered site
instr_operand (i.Enter site) = numbered site
instr_operand (i.Region declaration) = numbered declaration
instr_operand (i.Part slot) = numbered slot
instr_operand (i.InPart slot) = numbered slot
instr_operand (i.InParts slot) = numbered slot
instr_operand other = []

-- a number, right in four places
abbrev pub right_in_four : ℕ → List ℕ
right_in_four n = replicate (4 - length (decimal n)) 32 ++ decimal n

-- an instruction at its position
abbrev pub instr_text : ℕ → Instr → List ℕ
instr_text at instr = right_in_four at ++ codes " " ++ instr_name instr ++ instr_operand instr

abbrev pub instr_line : ℕ → Instr → List ℕ
instr_line at instr = instr_text at instr ++ codes "\n"

-- the instructions from a position on
abbrev pub instr_lines : ℕ → List Instr → List ℕ
instr_lines at [] = []
instr_lines at (instr ∷ instrs) = instr_line at instr ++ instr_lines (suc at) instrs

-- a method or constructor, or a branch: its site, and its number there
abbrev pub title_line : Title → List ℕ
title_line (title.Member name) = codes "method " ++ name ++ codes "\n"
title_line (title.Branch site number) = codes "branch " ++ decimal site ++ codes " " ++ decimal number ++ codes "\n"

abbrev pub body_text : Body → List ℕ
body_text body = title_line body.title ++ instr_lines 0 body.instrs

-- all bodies, in their order
abbrev pub listing_of : Code → List ℕ
listing_of code = flat_map body_text code.bodies

-- bodies, of which these are the titles
abbrev pub titled_text : List Title → List PlainBody → List ℕ
titled_text [] bodies = []
titled_text (title ∷ titles) [] = []
titled_text (title ∷ titles) (body ∷ bodies) = title_line title ++ instr_lines 0 (map (λ line. line.instr) body.lines) ++ titled_text titles bodies

-- the listing of plain code, of whose bodies these are the titles
abbrev pub plain_listing : List Title → PlainCode → List ℕ
plain_listing titles code = titled_text titles code.bodies
