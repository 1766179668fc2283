-- The 64 bits of a page by place: D0 to D47 are the word's bits from the lowest on, S15 to S0 the check's from the highest on.
use Rattle.std.proofs.Common.{◌≡◌, ℕ, zero, suc, ◌+◌, ◌-◌, ◌/◌, ◌^◌, ◌<◌, Bool, false, List, length, get_or, sym, ap, ◌∙◌, ap₂, le_of_suc-le-suc, not-suc-le-zero, div-one, one-add, arith, length-append, get_or-append-add, shr-shr}
use lib.ListN.{get_or-append}
use Rattle.page_word.specs.Word.{odd, bits_of}
use Rattle.page_check_bits.specs.CheckBits.{check_list, check_bits}
use Rattle.polynomials.proofs.BinaryNumbers.{digit_at}
use Rattle.page_check_bits.proofs.WordBits.{bits_length}
use Rattle.page_check_bits.proofs.CheckTheorem.{check_list_length, check_list_digits}
use Rattle.line_writer.specs.Transitions.{sent_bits}

bit_at_place : (n w j : ℕ) → j < n → get_or (bits_of n w) j false ≡ odd (w / 2 ^ j)
bit_at_place zero w j h = absurd (not-suc-le-zero h)
bit_at_place (suc n) w zero h = ap odd (sym (div-one w))
bit_at_place (suc n) w (suc j) h =
    bit_at_place n (w / 2) j (le_of_suc-le-suc h) ∙ ap odd (shr-shr w 1 j ∙ ap (λ (k : ℕ). w / 2 ^ k) (one-add j))

pub sent_length : (w : ℕ) → length (sent_bits w) ≡ 64
unfolding sent_bits
sent_length w = length-append (bits_of 48 w) (check_list w) ∙ ap₂ ◌+◌ (bits_length 48 w) (check_list_length w)

pub data_bit : (w j : ℕ) → j < 48 → get_or (sent_bits w) j false ≡ odd (w / 2 ^ j)
unfolding sent_bits
data_bit w j h = get_or-append (bits_of 48 w) (check_list w) false j (omega (arith, bits_length 48 w)) ∙ bit_at_place 48 w j h

pub check_bit : (w j : ℕ) → j < 16 → get_or (sent_bits w) (48 + j) false ≡ odd (check_bits w / 2 ^ (15 - j))
unfolding sent_bits
check_bit w j h =
    get_or-append-add (bits_of 48 w) (check_list w) j false
    ∙ ap (λ (l : List Bool). get_or l j false) (check_list_digits w)
    ∙ digit_at 16 (check_bits w) j h
    ∙ ap (λ (k : ℕ). odd (check_bits w / 2 ^ k)) (let e : 16 - suc j ≡ 15 - j = omega arith in e)
