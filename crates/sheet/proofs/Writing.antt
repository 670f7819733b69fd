-- One form more in the caller's bytes. Assumes nothing.
use Rattle.std.proofs.Common.{◌≡◌, ℕ, ◌+◌, ◌≤◌, List, [], ◌++◌, length, take, drop, sym, ap, ◌∙◌, append_assoc, append-nil, arith}
use Rattle.std.proofs.lemmas.List.{length-append, length-take-le, length-drop, drop-drop, take-append-drop}
use Rattle.std.proofs.lemmas.Slice.{take-put_mid, drop-put_mid}
use borrow.Rule.Slice.PartMut.{put_mid}

module _ (out : List ℕ) (at : ℕ) (inside : at ≤ length out) where
  -- what is written and what is left are as long as the whole
  pub room_left : (rest whole : List ℕ) → take at out ++ rest ≡ whole → length whole ≡ at + length rest
  room_left rest whole is =
      let size = length-append (take at out) rest in
      let front = length-take-le at out inside in
      let all = ap length is in
      omega arith

  -- at the end the whole is written
  pub all_written : (before whole : List ℕ) → take at out ++ [] ≡ whole → drop at out ≡ drop at before → out ≡ whole ++ drop at before
  all_written before whole is rest =
      sym (take-append-drop at out) ∙ ap (λ xs. xs ++ drop at out) (sym (append-nil (take at out)) ∙ is) ∙ ap (λ xs. whole ++ xs) rest

  -- a form more is written at its place
  pub form_written : (before xs rest whole : List ℕ) (k : ℕ) (ys : List ℕ) → ys ≡ xs → k ≡ length xs → length out ≡ length before → length whole ≤ length before
      → take at out ++ (xs ++ rest) ≡ whole → drop at out ≡ drop at before
      → ((length (put_mid at k out ys) ≡ length before) × (at + length xs ≤ length (put_mid at k out ys)))
      × ((take (at + length xs) (put_mid at k out ys) ++ rest ≡ whole) × (drop (at + length xs) (put_mid at k out ys) ≡ drop (at + length xs) before))
  form_written before xs rest whole k ys same size long room is kept =
      let n : length ys ≡ length xs = ap length same in
      let all = room_left (xs ++ rest) whole is in
      let parts = length-append xs rest in
      let front = take-put_mid at k out ys (at + length xs) (omega arith) inside in
      let back = drop-put_mid at k out ys (at + length xs) (omega arith) inside (omega arith) in
      let taken : length (take at out ++ ys) ≡ at + length xs = (let x = length-append (take at out) ys in let y = length-take-le at out inside in omega arith) in
      let cut = length-append (take (at + length xs) (put_mid at k out ys)) (drop (at + length xs) (put_mid at k out ys)) in
      let joined = ap length (take-append-drop (at + length xs) (put_mid at k out ys)) in
      let fronted = ap length front in
      let backed = ap length back in
      let tail = length-drop (at + length xs) out in
      let total : length (put_mid at k out ys) ≡ length out = omega arith in (
        (total ∙ long, omega arith),
        (
          ap (λ zs. zs ++ rest) (front ∙ ap (λ zs. take at out ++ zs) same) ∙ append_assoc (take at out) xs rest ∙ is,
          back ∙ sym (drop-drop (length xs) at out) ∙ ap (drop (length xs)) kept ∙ drop-drop (length xs) at before,
        ),
      )
