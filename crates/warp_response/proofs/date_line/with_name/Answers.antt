use Rattle.std.proofs.Common.{◌≡◌, ℕ, ◌+◌, List, ◌++◌, length, take, sym, ap, ◌∙◌, arith, codes}
use Rattle.std.proofs.lemmas.List.{take_all}
use Rattle.warp_response.proofs.date_line.with_name.Goals as goal

joins : (date one two three : List ℕ) → length date ≡ 29 → length three ≡ 37 → take 6 one ≡ codes "Date: "
    → take (6 + length date) two ≡ take 6 one ++ date → take 37 three ≡ take 35 two ++ codes "\r\n"
    → three ≡ (codes "Date: " ++ date) ++ codes "\r\n"
joins date one two three long all first second third =
    let e : 6 + length date ≡ 35 = omega (arith, long) in
    sym (take_all 37 three (omega (arith, all))) ∙ third
    ∙ ap (λ (l : List ℕ). l ++ codes "\r\n")
    (sym (ap (λ (n : ℕ). take n two) e) ∙ second ∙ ap (λ (l : List ℕ). l ++ date) first)

pub returns : goal.returns
returns c =
    joins c.args.date.now c.write_at.new.buf c.write_at-2.new.buf c.write_at-3.new.buf c.told-date
    (omega (arith, c.write_at-3.auto.buf, c.write_at-2.auto.buf, c.write_at.auto.buf))
    c.write_at.ensures c.write_at-2.ensures c.write_at-3.ensures
