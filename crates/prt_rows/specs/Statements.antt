-- The texts that make, read and write the tables.
use Rattle.prt_addr.specs.Word.{Word}
use Rattle.std.specs.Prelude.{codes}

abbrev pub create_rule : Word
create_rule = codes "CREATE TABLE IF NOT EXISTS rule (id INTEGER PRIMARY KEY NOT NULL, priority INTEGER NOT NULL, inverted INTEGER NOT NULL, src_net INTEGER NOT NULL, src_len INTEGER NOT NULL, dst_net INTEGER NOT NULL, dst_len INTEGER NOT NULL, iif TEXT NOT NULL, mark INTEGER NOT NULL, mask INTEGER NOT NULL, act INTEGER NOT NULL, tbl INTEGER NOT NULL) STRICT"

abbrev pub create_route : Word
create_route = codes "CREATE TABLE IF NOT EXISTS route (tbl INTEGER NOT NULL, net INTEGER NOT NULL, len INTEGER NOT NULL, metric INTEGER NOT NULL, kind INTEGER NOT NULL, via INTEGER NOT NULL, dev TEXT NOT NULL, src INTEGER NOT NULL, proto INTEGER NOT NULL, scope INTEGER NOT NULL, PRIMARY KEY (tbl, net, len, metric)) STRICT"

abbrev pub create_meta : Word
create_meta = codes "CREATE TABLE IF NOT EXISTS meta (id INTEGER PRIMARY KEY NOT NULL, format INTEGER NOT NULL, count INTEGER NOT NULL) STRICT"

abbrev pub create_suppress : Word
create_suppress = codes "CREATE TABLE IF NOT EXISTS suppress (rule INTEGER PRIMARY KEY NOT NULL REFERENCES rule (id) ON DELETE CASCADE, len INTEGER NOT NULL) STRICT"

-- the ids of a table's rows
abbrev pub look_at_rules : Word
look_at_rules = codes "SELECT id FROM rule"

abbrev pub look_at_routes : Word
look_at_routes = codes "SELECT rowid FROM route"

abbrev pub look_at_meta : Word
look_at_meta = codes "SELECT id FROM meta"

abbrev pub look_at_suppress : Word
look_at_suppress = codes "SELECT rule FROM suppress"

abbrev pub read_rules : Word
read_rules = codes "SELECT id, priority, inverted, src_net, src_len, dst_net, dst_len, iif, mark, mask, act, tbl FROM rule ORDER BY id"

abbrev pub read_routes : Word
read_routes = codes "SELECT rowid, tbl, net, len, metric, kind, via, dev, src, proto, scope FROM route ORDER BY rowid"

abbrev pub read_meta : Word
read_meta = codes "SELECT id, format, count FROM meta ORDER BY id"

abbrev pub read_suppress : Word
read_suppress = codes "SELECT rule, len FROM suppress ORDER BY rule"

abbrev pub insert_route : Word
insert_route = codes "INSERT INTO route (tbl, net, len, metric, kind, via, dev, src, proto, scope) VALUES (?1, ?2, ?3, ?4, ?5, ?6, ?7, ?8, ?9, ?10)"

abbrev pub put_route : Word
put_route = codes "INSERT INTO route (tbl, net, len, metric, kind, via, dev, src, proto, scope) VALUES (?1, ?2, ?3, ?4, ?5, ?6, ?7, ?8, ?9, ?10) ON CONFLICT (tbl, net, len, metric) DO UPDATE SET kind = ?5, via = ?6, dev = ?7, src = ?8, proto = ?9, scope = ?10"

abbrev pub delete_route : Word
delete_route = codes "DELETE FROM route WHERE tbl = ?1 AND net = ?2 AND len = ?3 AND metric = ?4"

abbrev pub insert_rule : Word
insert_rule = codes "INSERT INTO rule (id, priority, inverted, src_net, src_len, dst_net, dst_len, iif, mark, mask, act, tbl) VALUES (?1, ?2, ?3, ?4, ?5, ?6, ?7, ?8, ?9, ?10, ?11, ?12)"

abbrev pub insert_suppress : Word
insert_suppress = codes "INSERT INTO suppress (rule, len) VALUES (?1, ?2)"

abbrev pub delete_rule : Word
delete_rule = codes "DELETE FROM rule WHERE id = ?1"

abbrev pub flush_rules : Word
flush_rules = codes "DELETE FROM rule WHERE priority <> 0"

-- the table; the least and the greatest address and length; an address that is before the end; kind, protocol, scope and
-- name: -1, or the empty text, if all are taken
abbrev pub flush_routes : Word
flush_routes = codes "DELETE FROM route WHERE (?1 = -1 OR tbl = ?1) AND net >= ?2 AND net <= ?3 AND len >= ?4 AND len <= ?5 AND net + (4294967296 >> len) > ?6 AND (?7 = -1 OR kind = ?7) AND (?8 = -1 OR proto = ?8) AND (?9 = -1 OR scope = ?9) AND (?10 = '' OR dev = ?10)"

abbrev pub insert_meta : Word
insert_meta = codes "INSERT INTO meta (id, format, count) VALUES (?1, ?2, ?3)"

abbrev pub migrate : Word
migrate = codes "UPDATE meta SET format = 2 WHERE format = 1"

abbrev pub set_count : Word
set_count = codes "UPDATE meta SET count = ?1"
