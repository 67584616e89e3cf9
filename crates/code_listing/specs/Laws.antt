-- What a listing says of code.
use Rattle.std.specs.Prelude.{◌≡◌, map, length}
use Rattle.std.specs.List.{All}
use Rattle.code_instrs.specs.declared.code.Code.{Code}
use Rattle.code_instrs.specs.Plain.{plain_code}
use Rattle.code_listing.specs.Listing.{listing_of, plain_listing}

-- no more than its plain form and the titles of its bodies, where each instruction has a place
abbrev pub ListsPlainCode : Type 0
ListsPlainCode =
    (code : Code) → All (λ body. length body.instrs ≡ length body.places) code.bodies → listing_of code ≡ plain_listing (map (λ body. body.title) code.bodies) (plain_code code)
