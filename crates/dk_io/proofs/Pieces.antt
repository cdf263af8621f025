-- What pieces make that are read or written one after another.
use Rattle.std.proofs.Common.{◌≡◌, ℕ, ◌+◌, ◌-◌, ◌<◌, List, [], ◌++◌, length, take, drop, None, Some, sym, ◌∙◌, ap, arith, append_assoc}
use Rattle.std.specs.declared.option.Option.{Option}
use Rattle.std.specs.Io.KnownBytes.{Appends}
use Rattle.std.proofs.Math.Seq.{take-add}
use Rattle.std.proofs.lemmas.List.{length-append, take_rest}
use Rattle.dk_io.specs.Outside.{Told, Tells, Gives, Ends}

-- Where the bytes are told, the file of this name is what was read and then what is left.
abbrev pub IsLeftOf : Told → List ℕ → List ℕ → Option (List ℕ) → Type 0
IsLeftOf None name read left = Unit {0}
IsLeftOf (Some files) name read left = (rest : List ℕ) × (left ≡ Some rest) × (files name ≡ Some (read ++ rest))

-- a prefix that was written, and then a prefix of the rest
pub appends_more : (old mid new : Option (List ℕ)) (bytes : List ℕ) (i n : ℕ) → Appends old mid (take i bytes) → Appends mid new (take n (take (length bytes - i) (drop i bytes))) → Appends old new (take (i + n) bytes)
appends_more None mid new bytes i n first more = tt
appends_more (Some xs) None new bytes i n first more = absurd first
appends_more (Some xs) (Some ys) None bytes i n first more = absurd more
appends_more (Some xs) (Some ys) (Some zs) bytes i n first more = rw (more, first, append_assoc, take_rest) (ap (λ t. xs ++ t) (sym (take-add i n bytes)))

-- a file of which more was read than a file may have
pub left_long : (told : Told) (name read : List ℕ) (left : Option (List ℕ)) → 16777216 < length read → IsLeftOf told name read left → (bytes : List ℕ) → Tells told name bytes → 16777216 < length bytes
left_long None name read left long are bytes tells = absurd tells
left_long (Some files) name read left long are bytes tells =
    let same : Some bytes ≡ Some (read ++ are.0) = sym tells ∙ are.2 in
    let whole : bytes ≡ read ++ are.0 = cc in
    rw (whole, length-append) (omega arith)

-- a read that gave nothing although there was room
pub nothing_left : (told : Told) (name read : List ℕ) (old new : Option (List ℕ)) (n : ℕ) (buf : List ℕ) → IsLeftOf told name read old → Gives old new n buf → n ≡ 0 → 0 < length buf → Ends told new
nothing_left None name read old new n buf are gives none room = tt
nothing_left (Some files) name read None new n buf are gives none room = let same : None ≡ Some are.0 = are.1 in cc
nothing_left (Some files) name read (Some xs) None n buf are gives none room = absurd gives.bytes
nothing_left (Some files) name read (Some xs) (Some ys) n buf are gives none room =
    let moved : xs ≡ take n buf ++ ys = gives.bytes in
    let end : xs ≡ [] = gives.end none room in
    let rest : take 0 buf ++ ys ≡ [] = ap (λ k. take k buf ++ ys) (sym none) ∙ sym moved ∙ end in
    ap (λ (zs : List ℕ). Some zs) rest
