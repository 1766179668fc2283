-- What the write call says and leaves: Wide, no room, and room, in a mode's numbers; and the lent tail put back into its list.
use Rattle.std.proofs.Common.{◌≡◌, ℕ, ◌+◌, ◌-◌, ◌^◌, ◌<◌, ◌≤◌, Bool, true, false, cond, List, ◌++◌, length, take, drop, sym, ap, ◌∙◌, subst, ap₂, append_assoc, append-nil, arith, length-drop, drop_of_length-le, drop-drop, le-ltb, lt-ltb, le-leb}
use lib.ListN.{length-map}
use borrow.Author.Tests.{lt-leb}
use Rattle.answers.specs.Answers.{Said, refused, number, put_at}
use Rattle.answers.specs.declared.Refusal.TheVariants.{Room, Wide}
use Rattle.line_mode.specs.declared.modes.LineMode.{LineMode}
use Rattle.line_writer.specs.Transitions.{reading_at, readings, edge_count, transitions}
use Rattle.line_writer.specs.Writing.{write_in}
use Rattle.line_writer.proofs.LentTail.{whole_tail}
use Rattle.line_writer.proofs.EdgeCount.{edge_count_law}

-- There are as many readings as transitions.
pub count_written : (m : LineMode) (w first : ℕ) → length (readings m w first) ≡ edge_count m w
unfolding readings edge_count
count_written m w first = length-map (transitions m w) (reading_at m.spacing first)

module _ (m : LineMode) (list : List ℕ) (place w first : ℕ) where
  -- The list with a page's readings in it.
  pub page_put : put_at place (readings m w first) list ≡ take place list ++ (readings m w first ++ drop (place + edge_count m w) list)
  page_put =
      append_assoc (take place list) (readings m w first) (drop (place + length (readings m w first)) list)
      ∙ ap (λ (n : ℕ). take place list ++ (readings m w first ++ drop (place + n) list)) (count_written m w first)

  -- What a call says and leaves.
  pub record Outcome (says : Said) (leaves : List ℕ) : Type 0 where
    pub said : says ≡ (write_in m list place w first).says
    pub left : leaves ≡ (write_in m list place w first).list

  pub wide : 2 ^ 48 ≤ w → Outcome (refused Wide) list
  unfolding write_in
  wide h = record { said = rw (le-leb (2 ^ 48) w h); left = rw (le-leb (2 ^ 48) w h) }

  module _ (fits : w < 2 ^ 48) where
    short : length list < place + edge_count m w → Outcome (refused Room) list
    unfolding write_in
    short h =
        record {
          said = rw (lt-leb (2 ^ 48) w fits, lt-ltb (length list) (place + edge_count m w) h);
          left = rw (lt-leb (2 ^ 48) w fits, lt-ltb (length list) (place + edge_count m w) h);
        }

    -- A page has edges, so at a place past the end there is no room for them.
    pub has_edges : 0 < edge_count m w
    unfolding edge_count
    has_edges = let e = edge_count_law m w fits in let l = least m.slow in omega arith
      where
        least : (t : Bool) → 81 ≤ cond t 86 81
        least true = omega arith
        least false = omega arith

    pub past : length list < place → Outcome (refused Room) list
    past h = let e = has_edges in short (omega arith)

    -- The number of transitions, as the code has found it.
    module _ (count : ℕ) (counted : count ≡ length (transitions m w)) where
      pub no_room : length list < place + count → Outcome (refused Room) list
      unfolding edge_count
      no_room h = short (subst (λ (n : ℕ). length list < place + n) counted h)

      pub too_few : length list - place < count → Outcome (refused Room) list
      too_few h = no_room (omega arith)

      module _ (room : count ≤ length list - place) where
        -- The part of the list that is lent is its tail, and has room for the page.
        lent : take (length list - place) (drop place list) ≡ drop place list
        lent = whole_tail list place

        pub lends : edge_count m w ≤ length (take (length list - place) (drop place list))
        unfolding edge_count
        lends = rw lent (omega (arith, length-drop place list))

        -- Put back, it leaves the page in the list.
        pub written : (tail : List ℕ) → tail ≡ readings m w first ++ drop (edge_count m w) (take (length list - place) (drop place list))
            → Outcome (number count) (take place list ++ (tail ++ drop (length list - place) (drop place list)))
        unfolding write_in edge_count
        written tail e =
            record {
              said = rw (lt-leb (2 ^ 48) w fits, le-ltb (length list) (place + edge_count m w) enough) (ap number counted);
              left = rw (lt-leb (2 ^ 48) w fits, le-ltb (length list) (place + edge_count m w) enough) put_back;
            }
          where
            enough : place + edge_count m w ≤ length list
            enough = let e = has_edges in omega arith

            put_back : take place list ++ (tail ++ drop (length list - place) (drop place list)) ≡ put_at place (readings m w first) list
            put_back =
                ap₂ (λ (t r : List ℕ). take place list ++ (t ++ r)) (e ∙ ap (λ (t : List ℕ). readings m w first ++ drop (edge_count m w) t) lent)
                (drop_of_length-le (drop place list) {i = length list - place} (omega (arith, length-drop place list)))
                ∙ ap (λ (t : List ℕ). take place list ++ t) (append-nil (readings m w first ++ drop (edge_count m w) (drop place list))
                ∙ ap (λ (t : List ℕ). readings m w first ++ t) (drop-drop (edge_count m w) place list))
                ∙ sym page_put
