-- What is skipped byte by byte is what the definition skips.
use Rattle.std.proofs.Common.{◌≡◌, ℕ, ◌≤◌, Bool, true, false, ◌&&◌, ◌||◌, eqb, List, [], ◌∷◌, ◌++◌, length, inl, inr, refl, sym, ap, subst, ◌∙◌, arith, length-append}
use Rattle.std.proofs.lemmas.Bool.{and_parts, cases_Bool, eqb-true}
use Rattle.dedukti_read.specs.Matter.{IsFirm, IsInside, Skips, Nothing, White, Comment, begins_with, has_end, is_comment, is_end, is_white}
use Rattle.dedukti_read.specs.Scan.{Within, Outside, Opened, Inside, Closing, skip, skip_from}

-- ---- what the definition skips is skipped

no_end : (b : ℕ) (text bytes : List ℕ) → is_end b text ≡ false → is_end b (text ++ 59 ∷ bytes) ≡ false
no_end b [] bytes h = elim (cases_Bool (eqb b 59)) [ inl e ↦ rw e refl | inr e ↦ rw e refl ]
no_end b (c ∷ text) bytes h = h

to_end : (text bytes : List ℕ) → IsInside text → skip_from Inside (text ++ 59 ∷ 41 ∷ bytes) ≡ skip bytes
unfolding skip_from
to_end [] bytes h = refl
to_end (b ∷ text) bytes h = rw (no_end b text (41 ∷ bytes) h.0) (to_end text bytes h.1)

end_stands : (text bytes : List ℕ) → has_end (text ++ 59 ∷ 41 ∷ bytes) ≡ true
end_stands [] bytes = refl
end_stands (b ∷ text) bytes =
    elim (cases_Bool (is_end b (text ++ 59 ∷ 41 ∷ bytes))) [ inl e ↦ rw e refl | inr e ↦ rw e (end_stands text bytes) ]

firm_stays : (bytes : List ℕ) → IsFirm bytes → skip bytes ≡ bytes
unfolding skip_from
firm_stays [] h = refl
firm_stays (b ∷ bytes) h = rw (h.0, h.1) refl

comment_passed : (text bytes : List ℕ) → IsInside text → skip (40 ∷ 59 ∷ (text ++ 59 ∷ 41 ∷ bytes)) ≡ skip bytes
unfolding skip_from
comment_passed text bytes inside = rw (end_stands text bytes) (to_end text bytes inside)

pub skips_only : {bytes rest : List ℕ} → Skips bytes rest → skip bytes ≡ rest
unfolding skip_from
skips_only (Nothing bytes firm) = firm_stays bytes firm
skips_only (White b bytes rest white h) = rw white (skips_only h)
skips_only (Comment text bytes rest inside h) = comment_passed text bytes inside ∙ skips_only h

-- ---- what is skipped is what the definition skips

record EndSplit (bytes rest : List ℕ) : Type 0 where
  text : List ℕ
  more : List ℕ
  inside : IsInside text
  is : bytes ≡ text ++ 59 ∷ 41 ∷ more
  next : Skips more rest

abbrev Reaches : Within → List ℕ → List ℕ → Type 0
Reaches Outside bytes rest = Skips bytes rest
Reaches Opened bytes rest = is_comment bytes ≡ true → Skips (40 ∷ bytes) rest
Reaches Inside bytes rest = has_end bytes ≡ true → EndSplit bytes rest
Reaches Closing bytes rest = begins_with 41 bytes ≡ true → (more : List ℕ) × (bytes ≡ 41 ∷ more) × Skips more rest

-- a byte of the text in front
longer : (b : ℕ) (bytes rest : List ℕ) → is_end b bytes ≡ false → EndSplit bytes rest → EndSplit (b ∷ bytes) rest
longer b bytes rest dull s =
    record { text = b ∷ s.text; more = s.more; inside = (still s.text s.is, s.inside); is = ap (λ (x : List ℕ). b ∷ x) s.is; next = s.next }
  where
    still : (text : List ℕ) → bytes ≡ text ++ 59 ∷ 41 ∷ s.more → is_end b text ≡ false
    still [] e = elim (cases_Bool (eqb b 59)) [ inl k ↦ rw k refl | inr k ↦ rw k refl ]
    still (c ∷ text) e = ap (is_end b) (sym e) ∙ dull

closed_so : (b : ℕ) (bytes rest more : List ℕ) → b ≡ 59 → bytes ≡ 41 ∷ more → Skips more rest → EndSplit (b ∷ bytes) rest
closed_so b bytes rest more e f h = record { text = []; more = more; inside = tt; is = rw (e, f) refl; next = h }

opened_so : (b : ℕ) (bytes rest : List ℕ) → b ≡ 59 → EndSplit bytes rest → Skips (40 ∷ b ∷ bytes) rest
opened_so b bytes rest e s = rw (e, s.is) (Comment s.text s.more rest s.inside s.next)

reaches : (within : Within) (bytes : List ℕ) → Reaches within bytes (skip_from within bytes)
unfolding skip_from
reaches Outside [] = Nothing [] tt
reaches Opened [] = λ e. absurd cc
reaches Inside [] = λ e. absurd cc
reaches Closing [] = λ e. absurd cc
reaches Outside (b ∷ bytes) = elim (cases_Bool (is_white b)) [
  | inl w ↦ rw w (White b bytes _ w (reaches Outside bytes))
  | inr dark ↦ elim (cases_Bool (eqb b 40 && is_comment bytes)) [
    | inl opens ↦ rw (dark, opens) (
        let p = and_parts (eqb b 40) (is_comment bytes) opens in
        subst (λ (x : ℕ). Skips (x ∷ bytes) (skip_from Opened bytes)) (sym (eqb-true b 40 p.0)) (reaches Opened bytes p.1))
    | inr plain ↦ rw (dark, plain) (Nothing (b ∷ bytes) (dark, plain))
  ]
]
reaches Opened (b ∷ bytes) = λ e.
    let p = and_parts (eqb b 59) (has_end bytes) e in
    opened_so b bytes (skip_from Inside bytes) (eqb-true b 59 p.0) (reaches Inside bytes p.1)
reaches Inside (b ∷ bytes) = λ e. elim (cases_Bool (is_end b bytes)) [
  | inl ends ↦ rw ends (
      let p = and_parts (eqb b 59) (begins_with 41 bytes) ends in
      let more = reaches Closing bytes p.1 in
      closed_so b bytes (skip_from Closing bytes) more.0 (eqb-true b 59 p.0) more.1 more.2)
  | inr dull ↦ rw dull (longer b bytes (skip_from Inside bytes) dull (reaches Inside bytes (subst (λ (x : Bool). (x || has_end bytes) ≡ true) dull e)))
]
reaches Closing (b ∷ bytes) = λ e. (bytes, ap (λ (x : ℕ). x ∷ bytes) (eqb-true b 41 e), reaches Outside bytes)

pub skips_so : (bytes : List ℕ) → Skips bytes (skip bytes)
skips_so bytes = reaches Outside bytes

pub one_rest : {bytes rest other : List ℕ} → Skips bytes rest → Skips bytes other → rest ≡ other
one_rest h k = sym (skips_only h) ∙ skips_only k

pub skips_shorter : {bytes rest : List ℕ} → Skips bytes rest → length rest ≤ length bytes
skips_shorter (Nothing bytes firm) = omega arith
skips_shorter (White b bytes rest white h) = let k = skips_shorter h in omega arith
skips_shorter (Comment text bytes rest inside h) = let k = skips_shorter h in let e = length-append text (59 ∷ 41 ∷ bytes) in omega arith
