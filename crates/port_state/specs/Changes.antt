-- The device with one thing changed; all else stays. A device is put together only here, where a link is forgotten (Memory), and where numbers mean one (PlainRecords); other
-- definitions read its fields.
use Rattle.std.specs.Prelude.{ℕ, Bool, true, false}
use Rattle.line_reader.specs.declared.reader.Reader.{Reader}
use Rattle.port_state.specs.declared.rounds.Round.{Round}
use Rattle.port_state.specs.Memory.{State, Lasting, Talk, NextPages, Outcome, Link, Device}

abbrev pub with_lasting : Lasting → Device → Device
with_lasting lasting d = record { lasting = lasting; state = d.state; link = d.link }

abbrev pub with_state : State → Device → Device
with_state state d = record { lasting = d.lasting; state = state; link = d.link }

abbrev pub with_link : Link → Device → Device
with_link link d = record { lasting = d.lasting; state = d.state; link = link }

-- What outlives a link: 7.514-7.516; Page received and Remote fault.
abbrev pub with_advertised : (advertised : ℕ) → Device → Device
with_advertised advertised d = with_lasting (record { advertised = advertised; flags = d.lasting.flags }) d

abbrev pub with_flags : (received fault : Bool) → Device → Device
with_flags received fault d =
    with_lasting (record { advertised = d.lasting.advertised; flags = record { received = received; fault = fault } }) d

-- What belongs to the link: 7.517-7.519, Next Pages, what is said and heard, the outcome, the reader.
abbrev pub with_partner : (partner : ℕ) → Device → Device
with_partner partner d =
    with_link (record { partner = partner; next = d.link.next; talk = d.link.talk; outcome = d.link.outcome; reader = d.link.reader }) d

abbrev pub with_next : NextPages → Device → Device
with_next next d =
    with_link (record { partner = d.link.partner; next = next; talk = d.link.talk; outcome = d.link.outcome; reader = d.link.reader }) d

abbrev pub with_talk : Talk → Device → Device
with_talk talk d =
    with_link (record { partner = d.link.partner; next = d.link.next; talk = talk; outcome = d.link.outcome; reader = d.link.reader }) d

abbrev pub with_outcome : Outcome → Device → Device
with_outcome outcome d =
    with_link (record { partner = d.link.partner; next = d.link.next; talk = d.link.talk; outcome = outcome; reader = d.link.reader }) d

abbrev pub with_reader : Reader → Device → Device
with_reader reader d =
    with_link (record { partner = d.link.partner; next = d.link.next; talk = d.link.talk; outcome = d.link.outcome; reader = reader }) d

-- Of what is said and heard: the own base page, the held base page, whether a page is out, the count,
abbrev pub with_own : (own : ℕ) → Device → Device
with_own own d =
    let t = d.link.talk in
    with_talk (record { own = own; held = t.held; count = t.count; mark = t.mark; timer = t.timer; out = t.out; heard = t.heard; latch = t.latch }) d

abbrev pub with_held : (held : ℕ) → Device → Device
with_held held d =
    let t = d.link.talk in
    with_talk (record { own = t.own; held = held; count = t.count; mark = t.mark; timer = t.timer; out = t.out; heard = t.heard; latch = t.latch }) d

abbrev pub with_out : (out : Bool) → Device → Device
with_out out d =
    let t = d.link.talk in
    with_talk (record { own = t.own; held = t.held; count = t.count; mark = t.mark; timer = t.timer; out = out; heard = t.heard; latch = t.latch }) d

abbrev pub with_count : (count : ℕ) → Device → Device
with_count count d =
    let t = d.link.talk in
    with_talk (record { own = t.own; held = t.held; count = count; mark = t.mark; timer = t.timer; out = t.out; heard = t.heard; latch = t.latch }) d

-- "There is one mark, the last set": whether it is "heard" (else "waiting"), and its reading;
abbrev pub with_mark : (heard : Bool) (reading : ℕ) → Device → Device
with_mark heard reading d =
    let t = d.link.talk in
    with_talk (record { own = t.own; held = t.held; count = t.count; mark = reading; timer = t.timer; out = t.out; heard = heard; latch = t.latch }) d

abbrev pub mark_heard : (reading : ℕ) → Device → Device
mark_heard reading d = with_mark true reading d

abbrev pub mark_waiting : (reading : ℕ) → Device → Device
mark_waiting reading d = with_mark false reading d

-- the reading at which the state's timer started, the link latch.
abbrev pub with_timer : (reading : ℕ) → Device → Device
with_timer reading d =
    let t = d.link.talk in
    with_talk (record { own = t.own; held = t.held; count = t.count; mark = t.mark; timer = reading; out = t.out; heard = t.heard; latch = t.latch }) d

abbrev pub with_latch : (latch : Bool) → Device → Device
with_latch latch d =
    let t = d.link.talk in
    with_talk (record { own = t.own; held = t.held; count = t.count; mark = t.mark; timer = t.timer; out = t.out; heard = t.heard; latch = latch }) d

-- Of the Next Pages: the own and the held one,
abbrev pub with_own_next : (own : ℕ) → Device → Device
with_own_next own d =
    let n = d.link.next in
    with_next (record { own = own; held = n.held; transmit = n.transmit; heard = n.heard; good = n.good; loaded = n.loaded; round = n.round }) d

abbrev pub with_held_next : (held : ℕ) → Device → Device
with_held_next held d =
    let n = d.link.next in
    with_next (record { own = n.own; held = held; transmit = n.transmit; heard = n.heard; good = n.good; loaded = n.loaded; round = n.round }) d

-- 7.520-7.522, the loaded mark, 7.523-7.525,
abbrev pub with_transmit : (transmit : ℕ) → Device → Device
with_transmit transmit d =
    let n = d.link.next in
    with_next (record { own = n.own; held = n.held; transmit = transmit; heard = n.heard; good = n.good; loaded = n.loaded; round = n.round }) d

abbrev pub with_loaded : (loaded : Bool) → Device → Device
with_loaded loaded d =
    let n = d.link.next in
    with_next (record { own = n.own; held = n.held; transmit = n.transmit; heard = n.heard; good = n.good; loaded = loaded; round = n.round }) d

abbrev pub with_heard_next : (heard : ℕ) → Device → Device
with_heard_next heard d =
    let n = d.link.next in
    with_next (record { own = n.own; held = n.held; transmit = n.transmit; heard = heard; good = n.good; loaded = n.loaded; round = n.round }) d

-- the round, the reading of the last good page.
abbrev pub with_round : Round → Device → Device
with_round round d =
    let n = d.link.next in
    with_next (record { own = n.own; held = n.held; transmit = n.transmit; heard = n.heard; good = n.good; loaded = n.loaded; round = round }) d

abbrev pub with_good : (reading : ℕ) → Device → Device
with_good reading d =
    let n = d.link.next in
    with_next (record { own = n.own; held = n.held; transmit = n.transmit; heard = n.heard; good = reading; loaded = n.loaded; round = n.round }) d
